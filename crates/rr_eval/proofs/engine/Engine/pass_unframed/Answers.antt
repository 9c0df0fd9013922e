-- Nothing is chosen.
use Rattle.std.proofs.Common.{◌+◌, ◌∙◌, ap, arith, subst}
use Rattle.rr_space.specs.declared.refer.Ref.TheVariants.{Nil}
use Rattle.rr_tree.specs.Tree.{tree_at}
use Rattle.rr_eval.specs.Nodes.{evaluated_tree}
use Rattle.rr_eval.specs.StraightRounds.{SetsNow}
use Rattle.rr_eval.specs.Unframed.{framed_with}
use Rattle.rr_eval.specs.Views.{view_of}
use Rattle.rr_eval.proofs.StraightRounds.{choice_sets, nil_sets}
use Rattle.rr_eval.proofs.engine.Engine.pass_unframed.Goals as goal

pub returns-in-Some-Nil-clause-takes : goal.returns-in-Some-Nil-clause-takes
returns-in-Some-Nil-clause-takes c = λ f t lies.
    let p = c.args.prepared.now.program in
    let ns = p.nodes.items in
    let m = framed_with f (view_of c.args.self.now) in
    let node = c.in-Some-Choose in
    let tested = c.in_ok-tested.tested in
    let nothing = nil_sets p m t (tree_at ns c.chosen_part.result) (c.in-Some-Nil.ensures.tree ∙ ap (evaluated_tree ns) c.in-Some-Nil.field-0-is) in
    choice_sets p m m t tested.steps 1 (tested.steps + 2) (tree_at ns c.args.place) (tree_at ns node.condition) (tree_at ns node.yes) (tree_at ns node.no) tested.value Nil
    (node.ensures.tree ∙ ap (evaluated_tree ns) node.field-0-is) (c.in_ok-tested.ensures.takes f t lies)
    (subst (λ z. SetsNow p m t z 1 Nil m) (c.chosen_part.ensures ns) nothing) (omega arith)
