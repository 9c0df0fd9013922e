-- The tree of the node is that of its kind.
use Rattle.std.proofs.Common.{◌∙◌, ◌+◌, ap}
use Rattle.rr_tree.specs.Nodes.{trees_before}
use Rattle.rr_tree.specs.Tree.{tree_at}
use Rattle.rr_eval.specs.Nodes.{evaluated_tree}
use Rattle.rr_eval.specs.Rescuing.{rescue_rule}
use Rattle.rr_eval.specs.Rules.{rule}
use Rattle.rr_eval.specs.Script.{Go}
use Rattle.rr_eval.specs.Turns.{context_of}
use Rattle.rr_eval.proofs.Trees.{items_listed}
use Rattle.rr_eval.proofs.engine.Engine.visit_waiting.Goals as goal

pub visit_body-requires-clause-script : goal.visit_body-requires-clause-script
visit_body-requires-clause-script c =
    let p = c.args.prepared.now.program in
    ap (rule (context_of p)) (c.requires.tree ∙ ap (evaluated_tree p.nodes.items) c.in-Block.is)

pub visit_rescue-requires-clause-script : goal.visit_rescue-requires-clause-script
visit_rescue-requires-clause-script c w =
    let p = c.args.prepared.now.program in
    let ns = p.nodes.items in
    let own = context_of p in
    let call = c.in-Rescue in
    ap (rule own) (c.requires.tree ∙ ap (evaluated_tree ns) call.is)
    ∙ ap (λ cs. Go (tree_at ns call.body) (rescue_rule own cs (tree_at ns call.otherwise))) (items_listed (trees_before ns (call.first + call.count) call.count))
