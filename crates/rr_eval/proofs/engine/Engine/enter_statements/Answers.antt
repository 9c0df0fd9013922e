-- The tree at the place is that of the node there.
use Rattle.std.proofs.Common.{◌∙◌, ap}
use Rattle.rr_eval.specs.Nodes.{evaluated_tree}
use Rattle.rr_eval.proofs.engine.Engine.enter_statements.Goals as goal

pub visit_statements-requires-clause-tree : goal.visit_statements-requires-clause-tree
visit_statements-requires-clause-tree c =
    let p = c.args.prepared.now.program in
    let node = c.in-Some-Sequence in
    node.ensures.tree ∙ ap (evaluated_tree p.nodes.items) node.field-0-is
