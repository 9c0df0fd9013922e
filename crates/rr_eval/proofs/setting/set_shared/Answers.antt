-- The value is published, and then the constant is set.
use Rattle.std.proofs.Common.{inl, inr, refl, sym, subst, length}
use Rattle.rr_store.specs.Stores.{HasEvent}
use Rattle.rr_eval.specs.Published.{published}
use Rattle.rr_eval.proofs.Copied.{reached_on, left_on}
use Rattle.rr_eval.proofs.setting.set_shared.Goals as goal

pub public_value-public-requires-clause-public : goal.public_value-public-requires-clause-public
public_value-public-requires-clause-public c = c.in-Ok.ensures.public c.requires.shareable

pub finish_set-requires-clause-value : goal.finish_set-requires-clause-value
finish_set-requires-clause-value c =
    let told = c.in-Ok.ensures in
    reached_on (length c.args.space.now.slots) (length c.publish_shareable.new.space.slots) (published c.args.store.now) (published c.publish_shareable.new.store) told.grows told.more c.args.value c.requires.value

pub returns-in-Ok-finish_set-clause-left : goal.returns-in-Ok-finish_set-clause-left
returns-in-Ok-finish_set-clause-left c =
    let told = c.in-Ok.ensures in
    left_on c.args.store.now c.args.value c.args.space.now c.publish_shareable.new.space c.publish_shareable.new.store told.published (published c.finish_set.new.store) c.in-Ok-finish_set.response c.finish_set.new.space told.grows c.in-Ok-finish_set.ensures.left

pub returns-in-Err-HistoryFull-clause-set : goal.returns-in-Err-HistoryFull-clause-set
returns-in-Err-HistoryFull-clause-set c =
    let told = c.in-Err-HistoryFull.ensures in
    let full = rw c.in-Err-HistoryFull.field-0-is at told.fault in
    inr (inr (inr (record { says = refl; full = subst (λ s. HasEvent s → ⊥) (sym told.kept) full; left = inl (told.kept, told.unpublished) })))

pub returns-in-Err-HistoryFull-clause-left : goal.returns-in-Err-HistoryFull-clause-left
returns-in-Err-HistoryFull-clause-left c =
    let told = c.in-Err-HistoryFull.ensures in
    record { read = told.read; reached = tt; grows = told.grows; rest = told.unpublished.rest }
