use Rattle.rr_world.proofs.packing.copy_of.Goals as goal

pub returns-clause-copy : goal.returns-clause-copy
returns-clause-copy c =
    let copy = c.in_ok-message.ensures.copy in
    record {
      well = c.len-slots.ensures.well;
      within = c.requires;
      promoted = c.in_ok-can_pack.ensures.promoted.0 c.if-not-branch.false;
      free = c.in_ok-_found.ensures.free;
      names = copy.0;
      copy = copy.1;
      sender = c.in_ok-message.ensures.sender;
      sequence = c.in_ok-message.ensures.sequence;
      below = c.in_ok-message.ensures.below;
      sealed = c.size-size.ensures.sealed;
      sound = c.size-size.ensures.sound;
    }

pub pack_copy-requires-clause-promoted : goal.pack_copy-requires-clause-promoted
pack_copy-requires-clause-promoted c = c.in_ok-can_pack.ensures.promoted.0 c.if-not-branch.false
