-- One node more stands at its place.
use Rattle.std.proofs.Common.{◌≡◌, ◌+◌, ◌∙◌, ◌∷◌, [], length, length-append, ap, sym, subst, arith}
use Rattle.rr_eval.specs.Nodes.{AreEvaluated}
use Rattle.rr_eval.proofs.Trees.{evaluated_more}
use Rattle.rr_eval.proofs.evaluated_nodes.evaluated_nodes.Goals as goal

pub loop-number-preserved : goal.loop-number-preserved
loop-number-preserved c =
    let ns = c.args.program.now.nodes.items in
    let now = c.loop-number.invariant in
    let all = c.loop-number.nodes.items in
    let node = c.evaluated_node.result in
    let at : length all ≡ c.in-Ok.place = omega (arith, now.1, c.in-Ok.ensures) in
    let items = c.in_ok-push.ensures.items in
    (subst (AreEvaluated ns) (sym items) (evaluated_more ns all node c.in-Ok.place at now.0 c.evaluated_node.ensures.tree c.evaluated_node.ensures.evaluated), ap length items ∙ length-append all (node ∷ []) ∙ ap (λ n. n + 1) now.1)
