-- Nil is reached, and what is raised holds nothing.
use Rattle.std.proofs.Common.{length}
use Rattle.rr_space.specs.declared.refer.Ref.TheVariants.{Nil}
use Rattle.rr_eval.specs.declared.frame.Control.TheVariants.{Give, Throw}
use Rattle.rr_eval.specs.declared.problem.Answer.TheVariants.{Gave}
use Rattle.rr_eval.specs.declared.problem.Problem.TheVariants.{NotHere}
use Rattle.rr_eval.specs.Views.{view_of}
use Rattle.rr_eval.specs.Within.{reach}
use Rattle.rr_eval.proofs.Holding.{with_control}
use Rattle.rr_eval.proofs.engine.Engine.finish_nothing.Goals as goal

pub returns-in-Call-clause-within : goal.returns-in-Call-clause-within
returns-in-Call-clause-within c clusters h = with_control (reach (length c.args.space.now.slots) clusters) (view_of c.args.self.now) (Give (Gave Nil)) h tt

pub returns-in-Iterate-clause-within : goal.returns-in-Iterate-clause-within
returns-in-Iterate-clause-within c clusters h = with_control (reach (length c.args.space.now.slots) clusters) (view_of c.args.self.now) (Give (Gave Nil)) h tt

pub returns-in-Update-clause-within : goal.returns-in-Update-clause-within
returns-in-Update-clause-within c clusters h = with_control (reach (length c.args.space.now.slots) clusters) (view_of c.args.self.now) (Throw NotHere) h tt
