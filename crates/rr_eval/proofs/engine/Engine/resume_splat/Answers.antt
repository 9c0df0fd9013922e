-- The items are reached.
use Rattle.std.proofs.Common.{length, subst, sym, IfOk}
use Rattle.std.specs.List.{All}
use Rattle.rr_eval.specs.Within.{reach, IsReached}
use Rattle.rr_eval.proofs.engine.Engine.resume_splat.Goals as goal

pub returns-in-Ok-Ok-clause-within : goal.returns-in-Ok-Ok-clause-within
returns-in-Ok-Ok-clause-within c clusters h value =
    let k = reach (length c.args.space.now.slots) clusters in
    c.spread_items.ensures.within clusters h value (subst (All (IsReached k)) (sym c.as_slice-items.ensures.value) (subst (λ r. IfOk r (λ items. All (IsReached k) items.items)) c.in-Ok-Ok.field-0-is (c.in-Ok-Ok.ensures.within clusters value)))

pub returns-in-Ok-Ok-clause-asks : goal.returns-in-Ok-Ok-clause-asks
returns-in-Ok-Ok-clause-asks c clusters h value =
    let k = reach (length c.args.space.now.slots) clusters in
    c.spread_items.ensures.asks clusters h value (subst (All (IsReached k)) (sym c.as_slice-items.ensures.value) (subst (λ r. IfOk r (λ items. All (IsReached k) items.items)) c.in-Ok-Ok.field-0-is (c.in-Ok-Ok.ensures.within clusters value)))

pub returns-in-Ok-Err-clause-within : goal.returns-in-Ok-Err-clause-within
returns-in-Ok-Err-clause-within c clusters h value = c.refuse.ensures.within (reach (length c.args.space.now.slots) clusters) h
