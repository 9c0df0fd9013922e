use Rattle.std.proofs.Common.{[], length, refl, arith}
use Rattle.rr_share.proofs.Solids.{free_outside}
use Rattle.rr_copy.proofs.Contained.{ref_inside}
use Rattle.rr_copy.proofs.Packing.{pack_none, pack_is_copy, pack_is_message, pack_below}
use Rattle.rr_copy.proofs.copy.pack_copy.Goals as goal

pub invariant_of-result : goal.invariant_of-result
invariant_of-result c =
    let t = c.args.space.now in
    let p = pack_none t c.args.value c.new.result.items c.len-slots.ensures.well c.requires.promoted c.requires.within c.in_default.not-Local c.new.ensures.items in
    pack_is_message t c.args.value [] c.new.result.items c.args.value p (omega arith)

pub returns-in_default : goal.returns-in_default
returns-in_default c =
    let t = c.args.space.now in
    let p = pack_none t c.args.value c.new.result.items c.len-slots.ensures.well c.requires.promoted c.requires.within c.in_default.not-Local c.new.ensures.items in
    record {
      copy = ([], pack_is_copy t c.args.value [] c.new.result.items c.args.value p c.owner.result.0 0);
      sender = c.owner.ensures;
      sequence = refl;
      below = pack_below t c.args.value [] c.new.result.items c.args.value p;
      free = free_outside t c.args.value c.len-slots.ensures.well.sound c.in_default.not-Local;
      fault = tt;
      grows = tt;
    }

pub pack_found-requires-clause-found : goal.pack_found-requires-clause-found
pack_found-requires-clause-found c = record {
  exact = c.in_ok-names.ensures.exact;
  whole = c.in_ok-names.ensures.within (ref_inside (length c.args.space.now.slots) c.args.value c.requires.within);
  promoted = c.requires.promoted;
}

pub returns-clause-copy : goal.returns-clause-copy
returns-clause-copy c = (c.in_ok-names.names, c.in_ok-message.ensures.copy)
