-- What the main ractor has is its own.
use Rattle.std.proofs.Common.{None}
use Rattle.rr_eval.proofs.getting.own_constant.Goals as goal

pub returns-in-Some-clause-within : goal.returns-in-Some-clause-within
returns-in-Some-clause-within c unset = c.in-Some.ensures.within None
