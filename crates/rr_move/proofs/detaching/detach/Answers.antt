use Rattle.std.proofs.Common.{length}
use Rattle.rr_copy.proofs.Contained.{ref_inside}
use Rattle.rr_move.proofs.detaching.detach.Goals as goal

pub detach_found-requires-clause-found : goal.detach_found-requires-clause-found
detach_found-requires-clause-found c = record {
  exact = c.in_ok-found.ensures.exact;
  whole = c.in_ok-found.ensures.within (ref_inside (length c.args.space.now.slots) c.args.value c.requires.within);
  promoted = c.requires.promoted;
}
