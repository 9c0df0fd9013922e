-- What stands in the table under the name is what the program has of it.
use Rattle.std.proofs.Common.{◌∙◌, List, map, ap}
use Rattle.rr_tree.specs.declared.method_table.Entry.{Entry}
use Rattle.rr_tree.specs.Methods.{definition_at, last_in, own_method}
use Rattle.rr_tree.proofs.method_table.MethodTable.own.Goals as goal

pub returns : goal.returns
unfolding own_method
returns c =
    let p = c.args.program.now in
    c.last_in.ensures
    ∙ ap (λ (l : List Entry). last_in p c.args.class.0 (map (definition_at p.nodes.items) l)) c.entries_under.ensures
    ∙ ap (last_in p c.args.class.0) (c.requires c.args.name)
