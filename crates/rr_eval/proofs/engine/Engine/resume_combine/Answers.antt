-- The right side is the argument of the call.
use Rattle.std.proofs.Common.{[]}
use Rattle.rr_eval.specs.Within.{IsReached}
use Rattle.rr_eval.proofs.Holding.{all_cons, all_nil}
use Rattle.rr_eval.proofs.engine.Engine.resume_combine.Goals as goal

pub returns-clause-within : goal.returns-clause-within
returns-clause-within c k h old value = c.send_over.ensures.within k h tt old (all_cons (IsReached k) c.args.value [] value (all_nil (IsReached k)))
