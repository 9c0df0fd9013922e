-- A key of the list is reached.
use Rattle.std.proofs.Common.{◌<◌, length, arith, sym, subst, IfSome}
use Rattle.rr_eval.specs.Within.{reach, IsReached, IsAheadReached}
use Rattle.rr_eval.proofs.pair_turns.pairs_ahead.Goals as goal

pub returns-in-Some-clause-within : goal.returns-in-Some-clause-within
returns-in-Some-clause-within c clusters all =
    let k = reach (length c.args.space.now.slots) clusters in
    let place = c.loop-place.place in
    let lt : place < length c.args.stand.now = omega (arith, c.loop-place-test.true) in
    let key : IsReached k c.index-stand-place.result = subst (IsReached k) (sym c.index-stand-place.is) (all place _ lt) in
    subst (λ o. IfSome o (IsAheadReached k)) c.in-Some.is (c.in_ok-ahead.ensures.within clusters key)
