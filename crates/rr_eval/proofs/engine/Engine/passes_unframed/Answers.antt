-- One choice more chooses nothing, and the last statement is left.
use Rattle.std.proofs.Common.{◌≡◌, ◌+◌, ◌-◌, arith, refl, subst}
use Rattle.rr_space.specs.declared.refer.Ref.TheVariants.{Nil}
use Rattle.rr_eval.specs.Unframed.{framed_with, SetFirstInside}
use Rattle.rr_eval.specs.Views.{view_of}
use Rattle.rr_eval.proofs.StraightRounds.{more_set}
use Rattle.rr_eval.proofs.engine.Engine.passes_unframed.Goals as goal

pub loop-done-preserved : goal.loop-done-preserved
loop-done-preserved c =
    let p = c.args.prepared.now.program in
    let before = c.loop-done in
    let now = before.invariant in
    let steps = c.in_ok-steps.field-0 in
    let end = c.args.first + c.args.count in
    let more = c.loop-done-test.true in
    let fewer = now.fewer in
    let few = now.few in
    let its = c.in_ok-steps.ensures.few in
    record {
      passes = λ f t lies.
          let m = framed_with f (view_of c.args.self.now) in
          more_set p m m m t end c.args.count (c.args.count - before.done) before.steps steps (c.args.first + before.done) (c.args.count - (before.done + 1)) (before.steps + steps) Nil Nil (now.passes f t lies) (omega (arith, fewer)) (omega (arith, fewer)) (omega (arith, fewer)) refl (c.in_ok-steps.ensures.takes f t lies);
      fewer = omega (arith, more);
      few = omega (arith, few, its);
    }

pub returns-clause-passes : goal.returns-clause-passes
returns-clause-passes c =
    let before = c.loop-done in
    let m = view_of c.args.self.now in
    let last = c.loop-done-test.false in
    let fewer = before.invariant.fewer in
    let one : c.args.count - before.done ≡ 1 = omega (arith, last, fewer) in
    subst (λ k. SetFirstInside c.args.prepared.now.program m c.args.values.now c.args.home (c.args.first + c.args.count) c.args.count k before.steps Nil m) one before.invariant.passes
