use Rattle.std.proofs.Common.{arith}
use Rattle.rr_space.proofs.Preserving.{promoting_keeps}
use Rattle.rr_share.proofs.Forwards.{next_is, promoted_none, promoted_more, promoted_all, planned_within, planned_frozen, planned_few}
use Rattle.rr_share.proofs.promoting.promote.Goals as goal

pub loop-place-init : goal.loop-place-init
loop-place-init c = promoted_none c.args.published.cluster.now c.args.places c.args.space.now

pub overflow_cast-place : goal.overflow_cast-place
overflow_cast-place c =
    let few = planned_few c.args.space.now c.args.published.cluster.now c.args.places c.requires c.len-place-end.ensures.distinct in
    omega (arith, few, c.loop-place-test.true, c.len-place-end.ensures.len, c.len-slots.ensures.count, c.len-slots.ensures.room, c.limit-limit.ensures)

pub forward-requires-clause-slot : goal.forward-requires-clause-slot
forward-requires-clause-slot c =
    let lt = planned_within c.args.space.now c.args.published.cluster.now c.args.places c.requires c.loop-place.place c.at.result c.at.ensures in
    omega (arith, lt, c.loop-place.invariant.slots.size)

pub forward-requires-clause-frozen : goal.forward-requires-clause-frozen
forward-requires-clause-frozen c =
    planned_frozen c.args.space.now c.args.published.cluster.now c.args.places c.requires c.loop-place.place c.at.result c.at.ensures c.loop-place.space.slots
    (next_is c.args.places _ c.loop-place.place c.at.result c.args.space.now.slots c.loop-place.space.slots c.loop-place.space.slots c.len-place-end.ensures.distinct c.at.ensures c.loop-place.invariant.slots)

pub loop-place-preserved : goal.loop-place-preserved
loop-place-preserved c =
    let lt = planned_within c.args.space.now c.args.published.cluster.now c.args.places c.requires c.loop-place.place c.at.result c.at.ensures in
    promoted_more c.args.published.cluster.now c.loop-place.place c.at.result c.args.places c.args.space.now c.loop-place.space c.forward.new.self c.len-slots.ensures.well c.len-place-end.ensures.distinct c.at.ensures lt
    c.loop-place.invariant c.forward.ensures.slots c.forward.ensures.below c.forward.ensures.keys c.forward.ensures.rest

pub returns-clause-promoted : goal.returns-clause-promoted
returns-clause-promoted c =
    promoted_all c.args.published.cluster.now c.loop-place.place c.args.places c.args.space.now c.loop-place.space (omega (arith, c.len-place-end.ensures.len, c.loop-place-test.false)) c.loop-place.invariant

pub returns-clause-kept : goal.returns-clause-kept
returns-clause-kept c = promoting_keeps c.args.published.cluster.now c.args.places c.args.space.now c.loop-place.space c.requires (returns-clause-promoted c)
