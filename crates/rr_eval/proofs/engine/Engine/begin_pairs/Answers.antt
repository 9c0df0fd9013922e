-- The keys that are given are reached.
use Rattle.std.proofs.Common.{length, sym, subst, IfSome}
use Rattle.std.specs.List.{All}
use Rattle.rr_eval.specs.Within.{reach, IsReached}
use Rattle.rr_eval.proofs.engine.Engine.begin_pairs.Goals as goal

pub returns-in-Some-clause-within : goal.returns-in-Some-clause-within
returns-in-Some-clause-within c clusters h =
    let k = reach (length c.args.space.now.slots) clusters in
    let keys : All (IsReached k) c.in-Some.keys.items = subst (λ o. IfSome o (λ ks. All (IsReached k) ks.items)) c.in-Some.is (c.in_ok-keys.ensures.within clusters) in
    c.begin_with.ensures.within clusters h (subst (All (IsReached k)) (sym c.as_slice.ensures.value) keys)

pub returns-in-None-clause-within : goal.returns-in-None-clause-within
returns-in-None-clause-within c clusters h = c.refuse.ensures.within (reach (length c.args.space.now.slots) clusters) h
