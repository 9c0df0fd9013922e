-- One list has one more entry.
use Rattle.std.proofs.Common.{◌∙◌, ◌∷◌, [], ◌++◌, List, nat_eq, ap, arith, if◌then◌else◌}
use Rattle.rr_tree.specs.declared.method_table.Entry.{Entry}
use Rattle.rr_tree.proofs.Defined.{put_at}
use Rattle.rr_tree.proofs.method_table.put_entry.Goals as goal

pub returns : goal.returns
returns c x =
    let e = c.args.entry in
    put_at (λ l. l.items) c.grow.new.lists.items c.args.name.0 x c.push.new.self c.index_mut.result.now e (omega (arith, c.in_ok-grow.ensures.count))
    (c.in_ok-push.ensures.items ∙ ap (λ l. l.items ++ e ∷ []) c.index_mut.ensures.value)
    ∙ ap (λ (l : List Entry). if nat_eq c.args.name.0 x then l ++ e ∷ [] else l) (c.in_ok-grow.ensures.kept x)
