-- The entry stands under what calls it.
use Rattle.std.proofs.Common.{◌≡◌, ◌∙◌, [], ◌∷◌, ap, sym, subst}
use Rattle.std.proofs.lemmas.Result.{on_ok_weaker}
use Rattle.rr_tree.specs.declared.method_table.Entry.{Entry}
use Rattle.rr_tree.specs.declared.method_table.MethodName.{MethodName}
use Rattle.rr_tree.specs.declared.method_table.MethodTable.{MethodTable}
use Rattle.rr_tree.specs.Nodes.{IsNoItem}
use Rattle.rr_tree.specs.Tree.{Tree, tree_at}
use Rattle.rr_tree.specs.Methods.{calls, is_called_by, number_in, Adds}
use Rattle.rr_tree.proofs.Defined.{both_add}
use Rattle.rr_tree.proofs.method_table.MethodTable.put.Goals as goal

pub returns-clause-adds : goal.returns-clause-adds
returns-clause-adds c =
    let p = c.args.program.now in
    let ns = p.nodes.items in
    let old = c.args.self.now in
    let new : MethodTable = record { plain = c.put_named.new.lists; setters = c.put_named-2.new.lists } in
    let e : Entry = record { class = c.args.class; node = c.part_place-node.result } in
    let plain = number_in c.in_ok-callers.callers.name in
    let attribute = number_in c.in_ok-callers.callers.attribute in
    let part : IsNoItem c.node.result = subst IsNoItem (sym c.node.ensures.node) c.part_place-node.ensures.part in
    let is : (x : MethodName) → calls p x (tree_at ns e.node) ≡ is_called_by plain attribute x = λ x. ap (calls p x) c.node.ensures.tree ∙ c.in_ok-callers.ensures.calls part ns x in
    on_ok_weaker c.put_named-2.result
    (λ k. subst (λ (t : Tree). Adds p old new (record { class = number_in c.args.class; tree = t } ∷ [])) c.part_place-node.ensures.tree (both_add p old new e plain attribute c.in_ok-put_named.ensures k is))
    c.put_named-2.ensures
