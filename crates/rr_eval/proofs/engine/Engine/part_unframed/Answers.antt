-- A list of one statement is one step more.
use Rattle.std.proofs.Common.{◌≡◌, ◌+◌, ◌-◌, ◌∙◌, ap, arith, [], ◌∷◌}
use Rattle.rr_tree.specs.Tree.{listed, sequence, tree_at}
use Rattle.rr_tree.specs.declared.node.Node.TheVariants.{Sequence}
use Rattle.rr_eval.specs.Nodes.{evaluated_tree}
use Rattle.rr_eval.specs.Unframed.{framed_with}
use Rattle.rr_eval.specs.Views.{view_of}
use Rattle.rr_eval.proofs.StraightRounds.{list_sets}
use Rattle.rr_eval.proofs.engine.Engine.part_unframed.Goals as goal

pub returns-in_ok-done-in-Some-Sequence-default-eq1-clause-sets : goal.returns-in_ok-done-in-Some-Sequence-default-eq1-clause-sets
returns-in_ok-done-in-Some-Sequence-default-eq1-clause-sets c = λ f t lies.
    let p = c.args.prepared.now.program in
    let ns = p.nodes.items in
    let call = c.in-Some-Sequence-default-eq1 in
    let done = c.in_ok-done-in-Some-Sequence-default-eq1.done in
    let place : call.first + 1 - 1 ≡ call.first = omega arith in
    let one : call.field-0-1 ≡ 1 = omega (arith, call.field-0-1-test) in
    list_sets p (framed_with f (view_of c.args.self.now)) (framed_with f (view_of c.single_unframed.new.self)) t done.steps (tree_at ns c.args.place) (tree_at ns call.first) done.value
    (call.ensures.tree ∙ ap (evaluated_tree ns) call.field-0-is ∙ ap (λ k. evaluated_tree ns (Sequence call.first k)) one ∙ ap (λ k. sequence (listed (tree_at ns k ∷ []))) place)
    (c.in_ok-done-in-Some-Sequence-default-eq1.ensures.sets f t lies)

pub returns-in_ok-done-in-Some-Sequence-default-eq1-clause-value : goal.returns-in_ok-done-in-Some-Sequence-default-eq1-clause-value
returns-in_ok-done-in-Some-Sequence-default-eq1-clause-value c = c.in_ok-done-in-Some-Sequence-default-eq1.ensures.value
