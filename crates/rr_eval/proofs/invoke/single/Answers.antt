-- The only value is one of those that are reached.
use Rattle.std.proofs.Common.{sym, subst, arith}
use Rattle.rr_eval.specs.Within.{IsReached}
use Rattle.rr_eval.proofs.invoke.single.Goals as goal

pub returns-in-len1-None-clause-within : goal.returns-in-len1-None-clause-within
returns-in-len1-None-clause-within c k values last =
    let inside = c.passed.ensures.within k values last in
    subst (IsReached k) (sym c.value-item.is) (inside.0 0 c.value-item.result (omega (arith, c.in-len1-None.len_at_least)))
