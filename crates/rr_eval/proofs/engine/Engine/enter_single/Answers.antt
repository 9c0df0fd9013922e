-- The rule of a list of one statement is what that comes to.
use Rattle.std.proofs.Common.{◌≡◌, ◌+◌, ◌-◌, ◌∙◌, ap, sym, arith}
use Rattle.rr_tree.specs.Tree.{tree_at}
use Rattle.rr_tree.specs.declared.node.Node.TheVariants.{Sequence}
use Rattle.rr_eval.specs.Nodes.{evaluated_tree}
use Rattle.rr_eval.specs.Rules.{rule}
use Rattle.rr_eval.specs.Script.{Go, Ret}
use Rattle.rr_eval.specs.Turns.{context_of}
use Rattle.rr_eval.proofs.Lists.{sequence_rule}
use Rattle.rr_eval.proofs.engine.Engine.enter_single.Goals as goal

pub visit_body-requires-clause-script : goal.visit_body-requires-clause-script
visit_body-requires-clause-script c =
    let p = c.args.program.now in
    let ns = p.nodes.items in
    let node = c.in-Some-Sequence-default-eq1 in
    let place : node.first + 1 - 1 ≡ node.first = omega arith in
    let one : node.field-0-1 ≡ 1 = omega (arith, node.field-0-1-test) in
    ap (rule (context_of p)) (node.ensures.tree ∙ ap (evaluated_tree ns) node.field-0-is ∙ ap (λ k. evaluated_tree ns (Sequence node.first k)) one)
    ∙ sym (sequence_rule ns (context_of p) node.first 1)
    ∙ ap (λ i. Go (tree_at ns i) Ret) place
