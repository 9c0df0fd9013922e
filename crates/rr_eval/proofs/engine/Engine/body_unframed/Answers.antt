-- The last statement is done.
use Rattle.std.proofs.Common.{◌+◌, ◌-◌, arith, refl}
use Rattle.rr_space.specs.declared.refer.Ref.TheVariants.{Nil}
use Rattle.rr_eval.specs.Unframed.{framed_with}
use Rattle.rr_eval.specs.Views.{view_of}
use Rattle.rr_eval.proofs.StraightRounds.{more_set}
use Rattle.rr_eval.proofs.engine.Engine.body_unframed.Goals as goal

pub returns-clause-sets : goal.returns-clause-sets
returns-clause-sets c = λ f t lies.
    let p = c.args.prepared.now.program in
    let m = framed_with f (view_of c.args.self.now) in
    let n = framed_with f (view_of c.statement_unframed.new.self) in
    let count = c.args.count in
    let some = c.if-count-eq0.false in
    let passed = c.in_ok-passed.passed in
    let done = c.in_ok-done.done in
    more_set p m m n t (c.args.first + count) count 1 passed done.steps (c.args.first + (count - 1)) 0 (passed + done.steps) done.value Nil (c.in_ok-passed.ensures.passes f t lies) (omega arith) (omega (arith, some)) (omega arith) refl (c.in_ok-done.ensures.sets f t lies)

pub returns-clause-value : goal.returns-clause-value
returns-clause-value c = c.in_ok-done.ensures.value
