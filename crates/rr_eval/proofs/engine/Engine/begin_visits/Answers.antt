-- An iteration over a hash asks nothing when it begins.
use Rattle.std.proofs.Common.{◌≡◌, subst, sym, Option, None, Result, Ok, Err, IfOk}
use Rattle.rr_base.specs.declared.fault.Fault.{Fault}
use Rattle.rr_eval.specs.declared.request.Request.{Request}
use Rattle.rr_eval.specs.Within.{Reach, IsAskedReached}
use Rattle.rr_eval.proofs.engine.Engine.begin_visits.Goals as goal

nothing_asked : (k : Reach) (r : Result (Option Request) Fault) → IfOk r (λ q. q ≡ None) → IfOk r (IsAskedReached k)
nothing_asked k (Ok q) none = subst (IsAskedReached k) (sym none) tt
nothing_asked k (Err f) none = tt

pub returns-in-Pairs-clause-asks : goal.returns-in-Pairs-clause-asks
returns-in-Pairs-clause-asks c k h = nothing_asked k c.begin_pairs.result (c.begin_pairs.ensures.pairs _ c.in-Pairs.is)
