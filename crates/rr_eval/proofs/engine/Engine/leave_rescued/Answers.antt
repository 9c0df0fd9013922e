-- The exception that is tried is reached.
use Rattle.std.proofs.Common.{subst}
use Rattle.rr_eval.specs.Within.{IsAnswerReached}
use Rattle.rr_eval.proofs.engine.Engine.leave_rescued.Goals as goal

pub returns-in-Raised-clause-within : goal.returns-in-Raised-clause-within
returns-in-Raised-clause-within c k h reached = c.try_clauses.ensures.within k h (subst (IsAnswerReached k) c.in-Raised.is reached)
