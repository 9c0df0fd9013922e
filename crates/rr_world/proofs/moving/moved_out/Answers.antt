use Rattle.std.proofs.Common.{length, subst}
use Rattle.rr_space.specs.Tables.{Packed, IsSealed, message_graph}
use Rattle.rr_copy.specs.Messages.{IsMessageSound}
use Rattle.rr_copy.proofs.Contained.{ref_inside}
use Rattle.rr_world.proofs.moving.moved_out.Goals as goal

pub detach_found-requires-clause-found : goal.detach_found-requires-clause-found
detach_found-requires-clause-found c = record {
  exact = c.in_ok-found.ensures.exact;
  whole = c.in_ok-found.ensures.within (ref_inside (length c.args.space.now.slots) c.args.value c.requires);
  promoted = c.in_ok-can_pack.ensures.promoted.0 c.if-not-branch.false;
}

pub returns-clause-moved : goal.returns-clause-moved
returns-clause-moved c =
    let moved = c.in_ok-detach_found.ensures in
    let same = c.message-message.ensures.message in (
      c.in_ok-detach_found.field-0,
      same,
      c.message-message.ensures.home,
      record {
        well = c.len-slots.ensures.well;
        within = c.requires;
        promoted = c.in_ok-can_pack.ensures.promoted.0 c.if-not-branch.false;
        free = c.in_ok-found.ensures.free;
        copy = moved.copy;
        emptied = moved.emptied;
        sender = moved.sender;
        sequence = moved.sequence;
        next = moved.next;
        below = moved.below;
        sealed = subst (λ (p : Packed). IsSealed (message_graph p)) same c.size-size.ensures.sealed;
        sound = subst (λ (p : Packed). IsMessageSound p) same c.size-size.ensures.sound;
      },
    )
