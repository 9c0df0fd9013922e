-- The part that is chosen is done.
use Rattle.std.proofs.Common.{◌+◌, ◌∙◌, ap, refl, subst}
use Rattle.rr_tree.specs.Tree.{tree_at}
use Rattle.rr_eval.specs.Nodes.{evaluated_tree}
use Rattle.rr_eval.specs.StraightRounds.{SetsNow}
use Rattle.rr_eval.specs.Unframed.{framed_with}
use Rattle.rr_eval.specs.Views.{view_of}
use Rattle.rr_eval.proofs.StraightRounds.{choice_sets}
use Rattle.rr_eval.proofs.engine.Engine.choice_unframed.Goals as goal

pub returns-clause-sets : goal.returns-clause-sets
returns-clause-sets c = λ f t lies.
    let p = c.args.prepared.now.program in
    let ns = p.nodes.items in
    let m = framed_with f (view_of c.args.self.now) in
    let n = framed_with f (view_of c.part_unframed.new.self) in
    let node = c.in-Some-Choose in
    let tested = c.in_ok-tested.tested in
    let done = c.in_ok-done.done in
    choice_sets p m n t tested.steps done.steps (tested.steps + done.steps + 1) (tree_at ns c.args.place) (tree_at ns node.condition) (tree_at ns node.yes) (tree_at ns node.no) tested.value done.value
    (node.ensures.tree ∙ ap (evaluated_tree ns) node.field-0-is) (c.in_ok-tested.ensures.takes f t lies)
    (subst (λ z. SetsNow p m t z done.steps done.value n) (c.chosen_part-chosen.ensures ns) (c.in_ok-done.ensures.sets f t lies)) refl

pub returns-clause-value : goal.returns-clause-value
returns-clause-value c = c.in_ok-done.ensures.value
