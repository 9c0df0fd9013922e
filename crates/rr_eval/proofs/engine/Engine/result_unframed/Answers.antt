-- The last statement has the value.
use Rattle.std.proofs.Common.{◌+◌, ◌-◌, arith, refl}
use Rattle.rr_space.specs.declared.refer.Ref.TheVariants.{Nil}
use Rattle.rr_eval.specs.Unframed.{framed_with}
use Rattle.rr_eval.specs.Views.{view_of}
use Rattle.rr_eval.proofs.StraightRounds.{more_set}
use Rattle.rr_eval.proofs.engine.Engine.result_unframed.Goals as goal

pub returns-clause-takes : goal.returns-clause-takes
returns-clause-takes c = λ f t lies.
    let p = c.args.prepared.now.program in
    let m = framed_with f (view_of c.args.self.now) in
    let count = c.args.count in
    let some = c.if-count-eq0.false in
    let passed = c.in_ok-passed.passed in
    let found = c.in_ok-found.found in
    more_set p m m m t (c.args.first + count) count 1 passed found.steps (c.args.first + (count - 1)) 0 (passed + found.steps) found.value Nil (c.in_ok-passed.ensures.passes f t lies) (omega arith) (omega (arith, some)) (omega arith) refl (c.in_ok-found.ensures.takes f t lies)

pub returns-clause-within : goal.returns-clause-within
returns-clause-within c = c.in_ok-found.ensures.within
