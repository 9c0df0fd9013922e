-- The values are reached.
use Rattle.std.proofs.Common.{sym, subst, length, IfSome}
use Rattle.std.specs.List.{All}
use Rattle.rr_eval.specs.Leaves.{AreItemsReached, IsFoundReached}
use Rattle.rr_eval.specs.Within.{reach, IsReached}
use Rattle.rr_eval.proofs.leaves.leaves.Goals as goal

pub returns-in-Some-clause-within : goal.returns-in-Some-clause-within
returns-in-Some-clause-within c = λ clusters h.
    let k = reach (length c.args.space.now.slots) clusters in
    let found : AreItemsReached k c.in-Items.items.items = subst (IsFoundReached k) c.in-Items.is (c.in_ok-items.ensures.within clusters h) in
    let slice = subst (AreItemsReached k) (sym c.as_slice.ensures.value) found in
    subst (λ o. IfSome o (λ vs. All (IsReached k) vs.items)) c.in-Some.is (c.in_ok-leaves-in-Items.ensures.within k slice)
