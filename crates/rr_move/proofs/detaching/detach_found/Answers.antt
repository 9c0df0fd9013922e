use Rattle.std.proofs.Common.{[], ap, arith}
use Rattle.rr_space.specs.Tables.{Packed}
use Rattle.rr_space.specs.Moves.{IsCopy}
use Rattle.rr_space.specs.Parts.{value_of}
use Rattle.rr_copy.proofs.Packing.{pack_of, few_names, reaches_more, pack_is_copy, pack_is_message, pack_below}
use Rattle.rr_move.proofs.detaching.detach_found.Goals as goal

pub carried-root-requires-clause-known : goal.carried-root-requires-clause-known
carried-root-requires-clause-known c = λ m e. (c.requires.found.exact m).1 ([], e)

pub carried-root-requires-clause-few : goal.carried-root-requires-clause-few
carried-root-requires-clause-few c =
    let t = c.args.space.now in
    let few = few_names c.args.found t.slots c.len.ensures.distinct c.requires.found.whole in
    omega (arith, few)

pub take_all-requires-clause-closed : goal.take_all-requires-clause-closed
take_all-requires-clause-closed c = λ n m o l has at under.
    (c.requires.found.exact m).1 (reaches_more c.args.space.now _ n m o l ((c.requires.found.exact n).0 has) at under)

pub take_all-requires-clause-few : goal.take_all-requires-clause-few
take_all-requires-clause-few c =
    let t = c.args.space.now in
    let few = few_names c.args.found t.slots c.len.ensures.distinct c.requires.found.whole in
    omega (arith, few)

pub from_parts-message-requires : goal.from_parts-message-requires
from_parts-message-requires c =
    let t = c.args.space.now in
    let p = pack_of t c.args.value c.args.found c.take_all.new.objects.items c.carried-root.result c.len-slots.ensures.well c.requires.found.promoted c.requires.within
    c.requires.found.exact (λ b. c.requires.found.whole) c.len.ensures.distinct c.take_all.ensures.taken c.carried-root.ensures.same c.carried-root.ensures.within c.carried-root.ensures.below in
    let few = few_names c.args.found t.slots c.len.ensures.distinct p.whole in
    pack_is_message t c.args.value c.args.found c.take_all.new.objects.items c.carried-root.result p (omega (arith, few))

copied : (c : goal.After-from_parts-message) → IsCopy c.args.space.now (value_of c.args.value) c.args.found c.from_parts-message.result
copied c =
    let t = c.args.space.now in
    let p = pack_of t c.args.value c.args.found c.take_all.new.objects.items c.carried-root.result c.len-slots.ensures.well c.requires.found.promoted c.requires.within
    c.requires.found.exact (λ b. c.requires.found.whole) c.len.ensures.distinct c.take_all.ensures.taken c.carried-root.ensures.same c.carried-root.ensures.within c.carried-root.ensures.below in
    rw (c.from_parts-message.ensures) (pack_is_copy t c.args.value c.args.found c.take_all.new.objects.items c.carried-root.result p _ _)

pub returns-clause-copy : goal.returns-clause-copy
returns-clause-copy c =
    let t = c.args.space.now in
    let p = pack_of t c.args.value c.args.found c.take_all.new.objects.items c.carried-root.result c.len-slots.ensures.well c.requires.found.promoted c.requires.within
    c.requires.found.exact (λ b. c.requires.found.whole) c.len.ensures.distinct c.take_all.ensures.taken c.carried-root.ensures.same c.carried-root.ensures.within c.carried-root.ensures.below in
    rw (c.from_parts-message.ensures) (pack_is_copy t c.args.value c.args.found c.take_all.new.objects.items c.carried-root.result p _ _)

pub returns-clause-below : goal.returns-clause-below
returns-clause-below c =
    let t = c.args.space.now in
    let p = pack_of t c.args.value c.args.found c.take_all.new.objects.items c.carried-root.result c.len-slots.ensures.well c.requires.found.promoted c.requires.within
    c.requires.found.exact (λ b. c.requires.found.whole) c.len.ensures.distinct c.take_all.ensures.taken c.carried-root.ensures.same c.carried-root.ensures.within c.carried-root.ensures.below in
    rw (c.from_parts-message.ensures) (pack_below t c.args.value c.args.found c.take_all.new.objects.items c.carried-root.result p)

pub invariant_of-result : goal.invariant_of-result
invariant_of-result c =
    let e = c.from_parts-message.ensures in
    record {
      fits = record {
        sender = ap (λ (m : Packed). m.sender) e;
        sequence = ap (λ (m : Packed). m.sequence) e;
        size = (copied c).size;
      };
    }
