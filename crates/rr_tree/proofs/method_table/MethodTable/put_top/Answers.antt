-- The members of a class's body are the trees of its list.
use Rattle.std.proofs.Common.{◌∙◌, [], ◌∷◌, List, Some, None, OnOk, ap, sym, subst}
use Rattle.rr_tree.specs.Nodes.{IsNoItem, trees_in}
use Rattle.rr_tree.specs.Tree.{Tree}
use Rattle.rr_tree.specs.Methods.{Definition, standing_in, definitions_in, Adds}
use Rattle.rr_tree.proofs.Defined.{members_listed, other_definitions}
use Rattle.rr_tree.proofs.method_table.MethodTable.put_top.Goals as goal

pub returns-in-ClassBody-clause-adds : goal.returns-in-ClassBody-clause-adds
returns-in-ClassBody-clause-adds c =
    let ns = c.args.program.now.nodes.items in
    let class = c.in-ClassBody.name in
    let is = ap definitions_in (sym c.part_place-part.ensures.tree ∙ c.in-ClassBody.ensures.tree) ∙ ap (standing_in (Some class.0)) (members_listed (trees_in ns c.in-ClassBody.first c.in-ClassBody.count)) in
    subst (λ (ds : List Definition). OnOk c.put_members.result (Adds c.args.program.now c.args.self.now c.put_members.new.self ds)) (sym is) c.put_members.ensures.adds

pub returns-in_default-clause-adds : goal.returns-in_default-clause-adds
returns-in_default-clause-adds c =
    let ns = c.args.program.now.nodes.items in
    let node = c.node.result in
    let part : IsNoItem node = subst IsNoItem (sym c.node.ensures.node) c.part_place-part.ensures.part in
    let is = ap definitions_in (sym c.part_place-part.ensures.tree ∙ c.node.ensures.tree) ∙ other_definitions ns node part c.in_default.not-ClassBody ∙ ap (λ (t : Tree). standing_in None (t ∷ [])) (sym c.node.ensures.tree) in
    subst (λ (ds : List Definition). OnOk c.put.result (Adds c.args.program.now c.args.self.now c.put.new.self ds)) (sym is) c.put.ensures.adds
