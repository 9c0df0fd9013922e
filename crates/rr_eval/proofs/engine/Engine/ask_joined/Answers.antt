-- What is joined is reached.
use Rattle.std.proofs.Common.{[], sym, subst, length, IfOk}
use Rattle.std.specs.List.{All}
use Rattle.rr_eval.specs.Within.{reach, IsReached}
use Rattle.rr_eval.proofs.Holding.{all_cons, all_nil}
use Rattle.rr_eval.proofs.engine.Engine.ask_joined.Goals as goal

pub returns-in_ok-all-in-Ok-clause-within : goal.returns-in_ok-all-in-Ok-clause-within
returns-in_ok-all-in-Ok-clause-within c clusters h array separator =
    let k = reach (length c.args.space.now.slots) clusters in
    let found = subst (λ r. IfOk r (λ leaves. All (IsReached k) leaves.items)) c.in-Ok.is (c.in_ok-leaves.ensures.within clusters (all_cons (IsReached k) c.args.array [] array (all_nil (IsReached k)))) in
    let all = c.in_ok-all-in-Ok.ensures.within k separator (subst (All (IsReached k)) (sym c.as_slice.ensures.value) found) in
    c.ask_instead.ensures.within clusters h (subst (All (IsReached k)) (sym c.as_slice-in-Ok.ensures.value) all)

pub returns-in_ok-all-in-Ok-clause-asks : goal.returns-in_ok-all-in-Ok-clause-asks
returns-in_ok-all-in-Ok-clause-asks c clusters h array separator =
    let k = reach (length c.args.space.now.slots) clusters in
    let found = subst (λ r. IfOk r (λ leaves. All (IsReached k) leaves.items)) c.in-Ok.is (c.in_ok-leaves.ensures.within clusters (all_cons (IsReached k) c.args.array [] array (all_nil (IsReached k)))) in
    let all = c.in_ok-all-in-Ok.ensures.within k separator (subst (All (IsReached k)) (sym c.as_slice.ensures.value) found) in
    c.ask_instead.ensures.asks clusters h (subst (All (IsReached k)) (sym c.as_slice-in-Ok.ensures.value) all)
