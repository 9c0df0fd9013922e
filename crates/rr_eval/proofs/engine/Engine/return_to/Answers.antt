-- What comes next is the `return`.
use Rattle.rr_eval.specs.declared.frame.Control.TheVariants.{Give}
use Rattle.rr_eval.specs.declared.problem.Answer.TheVariants.{Returned}
use Rattle.rr_eval.specs.Views.{view_of}
use Rattle.rr_eval.proofs.Holding.{with_control}
use Rattle.rr_eval.proofs.engine.Engine.return_to.Goals as goal

pub returns-in_default-clause-within : goal.returns-in_default-clause-within
returns-in_default-clause-within c k h value = with_control k (view_of c.args.self.now) (Give (Returned c.args.value)) h value
