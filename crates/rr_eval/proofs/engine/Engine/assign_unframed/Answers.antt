-- The variable gets the value.
use Rattle.std.proofs.Common.{ℕ, ◌+◌, ◌∙◌, ◌∷◌, ◌++◌, [], ap, refl, subst, sym}
use Rattle.rr_frames.specs.Frames.{Stack}
use Rattle.rr_tree.specs.Tree.{tree_at}
use Rattle.rr_eval.specs.Nodes.{evaluated_tree}
use Rattle.rr_eval.specs.StraightRounds.{SetsNow}
use Rattle.rr_eval.specs.Unframed.{framed_with}
use Rattle.rr_eval.specs.Views.{view_of}
use Rattle.rr_eval.specs.declared.call_stack.Variable.{Variable as Named}
use Rattle.rr_eval.proofs.Holding.{calls_reached}
use Rattle.rr_eval.proofs.Spots.{with_variables}
use Rattle.rr_eval.proofs.StraightRounds.{assigned, assignment_sets, sets_calls}
use Rattle.rr_eval.proofs.engine.Engine.assign_unframed.Goals as goal

abbrev named : ℕ → ℕ → Named
named depth slot = record { depth = depth; slot = slot }

pub returns-in-true-clause-sets : goal.returns-in-true-clause-sets
returns-in-true-clause-sets c = λ f t lies.
    let p = c.args.prepared.now.program in
    let m = framed_with f (view_of c.args.self.now) in
    let ns = p.nodes.items in
    let node = c.in-Some-Assign in
    let found = c.in_ok-found.found in
    let x = named node.depth node.slot in
    let new = c.write_unframed.new.self in
    let calls : Stack = record new { frames = new.frames ++ f ∷ [] } in
    let at = node.ensures.tree ∙ ap (evaluated_tree ns) node.field-0-is in
    let done = assignment_sets p m t node.depth node.slot node.field-0-2.0 node.field-0-3 found.steps (tree_at ns node.value) found.value (c.in_ok-found.ensures.takes f t lies) in
    sets_calls p m t (tree_at ns c.args.place) (found.steps + 1) x found.value calls (sym (c.in-true.ensures.written refl f lies.lies)) c.write_unframed.ensures.many.limit
    (subst (λ z. SetsNow p m t z (found.steps + 1) found.value (assigned x found.value m)) (sym at) done)

pub returns-in-true-clause-within : goal.returns-in-true-clause-within
returns-in-true-clause-within c k h =
    let m = view_of c.args.self.now in
    with_variables k m c.write_unframed.new.self h (c.write_unframed.ensures.within k (c.in_ok-found.ensures.within k) (calls_reached k m h))

pub returns-in-true-clause-value : goal.returns-in-true-clause-value
returns-in-true-clause-value c = c.in_ok-found.ensures.within
