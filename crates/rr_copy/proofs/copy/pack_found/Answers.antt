use Rattle.std.proofs.Common.{[], arith}
use Rattle.rr_copy.proofs.Packing.{pack_of, few_names, reaches_more, pack_is_copy, pack_is_message, pack_below}
use Rattle.rr_copy.proofs.copy.pack_found.Goals as goal

pub copies_of-requires-clause-closed : goal.copies_of-requires-clause-closed
copies_of-requires-clause-closed c = λ n m o l has at under.
    (c.requires.found.exact m).1 (reaches_more c.args.space.now _ n m o l ((c.requires.found.exact n).0 has) at under)

pub copies_of-requires-clause-few : goal.copies_of-requires-clause-few
copies_of-requires-clause-few c =
    let few = few_names c.args.found.now c.args.space.now.slots c.len-places.ensures.distinct c.requires.found.whole in
    omega (arith, few)

pub carried-requires-clause-known : goal.carried-requires-clause-known
carried-requires-clause-known c = λ m e. (c.requires.found.exact m).1 ([], e)

pub carried-requires-clause-few : goal.carried-requires-clause-few
carried-requires-clause-few c =
    let few = few_names c.args.found.now c.args.space.now.slots c.len-places.ensures.distinct c.requires.found.whole in
    omega (arith, few)

pub invariant_of-result : goal.invariant_of-result
invariant_of-result c =
    let p = pack_of c.args.space.now c.args.value c.args.found.now c.in_ok-objects.objects.items c.carried.result c.len-slots.ensures.well c.requires.found.promoted c.requires.within
    c.requires.found.exact (λ b. c.requires.found.whole) c.len-places.ensures.distinct c.in_ok-objects.ensures.copies c.carried.ensures.same c.carried.ensures.within c.carried.ensures.below in
    let few = few_names c.args.found.now c.args.space.now.slots c.len-places.ensures.distinct p.whole in
    pack_is_message c.args.space.now c.args.value c.args.found.now c.in_ok-objects.objects.items c.carried.result p (omega (arith, few))

pub returns-clause-copy : goal.returns-clause-copy
returns-clause-copy c =
    let p = pack_of c.args.space.now c.args.value c.args.found.now c.in_ok-objects.objects.items c.carried.result c.len-slots.ensures.well c.requires.found.promoted c.requires.within
    c.requires.found.exact (λ b. c.requires.found.whole) c.len-places.ensures.distinct c.in_ok-objects.ensures.copies c.carried.ensures.same c.carried.ensures.within c.carried.ensures.below in
    pack_is_copy c.args.space.now c.args.value c.args.found.now c.in_ok-objects.objects.items c.carried.result p c.owner-sender.result.0 0

pub returns-clause-below : goal.returns-clause-below
returns-clause-below c =
    let p = pack_of c.args.space.now c.args.value c.args.found.now c.in_ok-objects.objects.items c.carried.result c.len-slots.ensures.well c.requires.found.promoted c.requires.within
    c.requires.found.exact (λ b. c.requires.found.whole) c.len-places.ensures.distinct c.in_ok-objects.ensures.copies c.carried.ensures.same c.carried.ensures.within c.carried.ensures.below in
    pack_below c.args.space.now c.args.value c.args.found.now c.in_ok-objects.objects.items c.carried.result p
