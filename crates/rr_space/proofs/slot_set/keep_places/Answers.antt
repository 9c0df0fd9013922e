use Rattle.std.proofs.Common.{get_or, arith}
use Rattle.std.proofs.lemmas.Option.{slice_get-get_or, slice_get_within}
use Rattle.rr_space.proofs.Paging.{next_place}
use Rattle.rr_space.proofs.slot_set.keep_places.Goals as goal

pub loop-place-preserved : goal.loop-place-preserved
loop-place-preserved c =
    let slots = c.args.slots.now in
    let k = c.loop-place.place in
    next_place slots k (get_or slots k 0) c.loop-place.places c.set.new.self c.requires.distinct (slice_get-get_or slots k 0 (omega (arith, c.loop-place-test.true))) c.loop-place.invariant
    c.set.ensures.kept c.in_ok-set.ensures.set

pub returns-clause-placed : goal.returns-clause-placed
returns-clause-placed c = λ i n at. let lt = slice_get_within c.args.slots.now i n at in c.loop-place.invariant i n (omega (arith, lt, c.loop-place-test.false)) at
