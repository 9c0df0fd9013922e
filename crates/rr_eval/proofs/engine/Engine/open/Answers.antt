-- A value is reached, and so is what waits for a part.
use Rattle.std.proofs.Common.{sym, subst}
use Rattle.rr_eval.specs.declared.engine.Engine.{Engine}
use Rattle.rr_eval.specs.declared.frame.Control.TheVariants.{Give}
use Rattle.rr_eval.specs.declared.problem.Answer.TheVariants.{Gave}
use Rattle.rr_eval.specs.Views.{view_of}
use Rattle.rr_eval.specs.Within.{AreReached}
use Rattle.rr_eval.proofs.Holding.{with_control}
use Rattle.rr_eval.proofs.engine.Engine.open.Goals as goal

pub returns-in-Some-clause-within : goal.returns-in-Some-clause-within
returns-in-Some-clause-within c k h =
    subst (λ (e : Engine). AreReached k (view_of e)) (sym c.answer.ensures) (with_control k (view_of c.args.self.now) (Give (Gave c.in-Some.value)) h (c.in-Some.ensures.within k h))

pub returns-in-Some-awaited_part-clause-within : goal.returns-in-Some-awaited_part-clause-within
returns-in-Some-awaited_part-clause-within c k h = c.enter_above.ensures.within k h (c.in-Some-awaited_part.ensures.within k)
