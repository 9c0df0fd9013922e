-- What is spread is reached.
use Rattle.std.proofs.Common.{length, sym, subst, IfSome}
use Rattle.std.specs.List.{All}
use Rattle.rr_eval.specs.Within.{reach, IsReached}
use Rattle.rr_eval.proofs.engine.Engine.call_turn.Goals as goal

pub returns-in-Some-2-clause-within : goal.returns-in-Some-2-clause-within
returns-in-Some-2-clause-within c clusters h given =
    let k = reach (length c.args.space.now.slots) clusters in
    let values : All (IsReached k) c.in-Some-2.values.items = subst (λ o. IfSome o (λ vs. All (IsReached k) vs.items)) c.in-Some-2.is (c.in_ok-values.ensures.within clusters) in
    c.enter_turn_spread.ensures.within k h (subst (All (IsReached k)) (sym c.as_slice.ensures.value) values)
