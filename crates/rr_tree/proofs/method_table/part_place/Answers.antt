-- An item has the tree of its part.
use Rattle.std.proofs.Common.{sym, subst, ◌∙◌}
use Rattle.rr_tree.specs.Nodes.{IsNoItem}
use Rattle.rr_tree.proofs.Defined.{no_item}
use Rattle.rr_tree.proofs.method_table.part_place.Goals as goal

pub loop-part-preserved : goal.loop-part-preserved
loop-part-preserved c = sym c.in-Item.ensures.tree ∙ c.loop-part.invariant

pub returns-in_default-clause-part : goal.returns-in_default-clause-part
returns-in_default-clause-part c = subst IsNoItem c.node.ensures.node (no_item c.node.result c.in_default.not-Item)
