-- The tree at the place is that of the node there.
use Rattle.std.proofs.Common.{◌∙◌, ap}
use Rattle.rr_eval.specs.Nodes.{evaluated_tree}
use Rattle.rr_eval.proofs.engine.Engine.visit_again.Goals as goal

pub visit_loop-requires-clause-tree : goal.visit_loop-requires-clause-tree
visit_loop-requires-clause-tree c =
    let p = c.args.prepared.now.program in
    let node = c.in-Some-Loop in
    node.ensures.tree ∙ ap (evaluated_tree p.nodes.items) node.field-0-is
