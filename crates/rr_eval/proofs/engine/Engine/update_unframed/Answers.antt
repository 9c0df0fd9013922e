-- The variable gets the value of the operator.
use Rattle.std.proofs.Common.{ℕ, ◌+◌, ◌∙◌, ◌∷◌, ◌++◌, [], ap, refl, sym}
use Rattle.rr_frames.specs.Frames.{Stack}
use Rattle.rr_tree.specs.Tree.{tree_at}
use Rattle.rr_eval.specs.Nodes.{evaluated_tree}
use Rattle.rr_eval.specs.Unframed.{framed_with}
use Rattle.rr_eval.specs.Views.{view_of}
use Rattle.rr_eval.specs.declared.call_stack.Variable.{Variable as Named}
use Rattle.rr_eval.proofs.Holding.{calls_reached}
use Rattle.rr_eval.proofs.Spots.{with_variables}
use Rattle.rr_eval.proofs.StraightRounds.{sets_calls, update_sets}
use Rattle.rr_eval.proofs.engine.Engine.update_unframed.Goals as goal

abbrev named : ℕ → ℕ → Named
named depth slot = record { depth = depth; slot = slot }

pub returns-in-true-clause-sets : goal.returns-in-true-clause-sets
returns-in-true-clause-sets c = λ f t lies.
    let p = c.args.prepared.now.program in
    let m = framed_with f (view_of c.args.self.now) in
    let ns = p.nodes.items in
    let node = c.in-Some-OperatorAssign in
    let target = c.in-Some-Local in
    let left = c.in_ok-left in
    let other = c.in_ok-other.other in
    let total = c.in_ok-total.total in
    let tree = tree_at ns c.args.place in
    let new = c.write_unframed.new.self in
    let calls : Stack = record new { frames = new.frames ++ f ∷ [] } in
    sets_calls p m t tree (other.steps + 3) (named target.depth target.slot) total calls (sym (c.in-true.ensures.written refl f lies.lies)) c.write_unframed.ensures.many.limit
    (update_sets p m t node.op target.depth target.slot target.field-0-2.0 target.field-0-3 other.steps (other.steps + 3) tree (tree_at ns node.target) (tree_at ns node.value) left.left other.value total
    (node.ensures.tree ∙ ap (evaluated_tree ns) node.field-0-is) (target.ensures.tree ∙ ap (evaluated_tree ns) target.field-0-is) (sym (left.ensures.reads f lies)) (c.in_ok-other.ensures.takes f t lies) c.in_ok-total.ensures.gives refl)

pub returns-in-true-clause-within : goal.returns-in-true-clause-within
returns-in-true-clause-within c k h =
    let m = view_of c.args.self.now in
    with_variables k m c.write_unframed.new.self h (c.write_unframed.ensures.within k (c.in_ok-total.ensures.within k) (calls_reached k m h))

pub returns-in-true-clause-value : goal.returns-in-true-clause-value
returns-in-true-clause-value c = c.in_ok-total.ensures.within
