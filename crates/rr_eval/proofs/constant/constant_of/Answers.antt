-- A constant was set, or is a built-in class.
use Rattle.std.proofs.Common.{length, subst}
use Rattle.rr_eval.specs.Within.{reach, IsResponseReached}
use Rattle.rr_eval.proofs.constant.constant_of.Goals as goal

pub returns-in-Gives-clause-within : goal.returns-in-Gives-clause-within
returns-in-Gives-clause-within c clusters = subst (IsResponseReached (reach (length c.args.space.now.slots) clusters)) c.in-Gives.is (c.in-Some.ensures.within clusters)
