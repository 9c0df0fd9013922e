use Rattle.std.proofs.Common.{rules, arith, ◌≡◌, ◌+◌, [], ◌∷◌, take, length, length-append, vec_len, ap, sym, subst}
use Rattle.std.specs.List.{AllZip}
use Rattle.rr_copy.specs.Contents.{IsCarriedFrom}
use Rattle.rr_share.proofs.Zips.{zip_more}
use Rattle.rr_move.proofs.Taking.{next_there, next_whole, next_known, next_carried, next_taken}
use Rattle.rr_move.proofs.detaching.take_all.Goals as goal

pub take_object-object-requires-clause-slot : goal.take_object-object-requires-clause-slot
take_object-object-requires-clause-slot c = next_there c.args.space.now c.args.slots.now c.len-place-end.ensures.distinct c.loop-place.place c.loop-place.space c.at.result c.at.ensures c.requires.whole c.loop-place.invariant.1

pub take_object-object-requires-clause-whole : goal.take_object-object-requires-clause-whole
take_object-object-requires-clause-whole c = next_whole c.args.space.now c.args.slots.now c.len-place-end.ensures.distinct c.loop-place.place c.loop-place.space c.at.result c.at.ensures c.requires.whole c.loop-place.invariant.1

pub take_object-object-requires-clause-known : goal.take_object-object-requires-clause-known
take_object-object-requires-clause-known c = next_known c.args.space.now c.args.slots.now c.len-place-end.ensures.distinct c.loop-place.place c.loop-place.space c.at.result c.at.ensures c.requires.whole c.loop-place.invariant.1 c.requires.closed

pub push_reserved-requires : goal.push_reserved-requires
push_reserved-requires c =
    let count : vec_len c.loop-place.objects ≡ length c.loop-place.objects.items = search rules in
    omega (arith, count, c.loop-place.invariant.3, c.loop-place.invariant.2, c.loop-place-test.true, c.len-place-end.ensures.len)

pub loop-place-preserved : goal.loop-place-preserved
loop-place-preserved c =
    let t = c.args.space.now in
    let names = c.args.slots.now in
    let k = c.loop-place.place in
    let now = c.loop-place.space in
    let n = c.at.result in
    let e = c.take_object-object.ensures in
    let d = c.len-place-end.ensures.distinct in
    let from = next_carried t names d k now n c.at.ensures c.requires.whole c.loop-place.invariant.1 c.take_object-object.result e.matches e.within e.clusters e.its_keys in
    let items = c.push_reserved.ensures.items in
    let more = length-append c.loop-place.objects.items (c.take_object-object.result ∷ []) in (
      subst (AllZip (IsCarriedFrom t names) (take (k + 1) names)) (sym items) (zip_more (IsCarriedFrom t names) names c.loop-place.objects.items k n c.take_object-object.result c.at.ensures c.loop-place.invariant.0 from),
      next_taken t names d k now n c.at.ensures c.requires.whole c.loop-place.invariant.1 c.take_object-object.new.self c.len-slots.ensures.well.sound c.len-slots.ensures.well.keyed.count e.slots e.below e.keys e.rest,
      rw (c.push_reserved.ensures.capacity) c.loop-place.invariant.2,
      omega (arith, ap length items, more, c.loop-place.invariant.3),
    )
