use Rattle.rr_builtin.proofs.Listing.{halves}
use Rattle.rr_builtin.proofs.Gathering.{IsGathered}
use Rattle.rr_builtin.proofs.arrays.every_other.Given as goal

abbrev pub invariant-loop-pair : goal.invariant-loop-pair
invariant-loop-pair l = IsGathered l.space l.hash l.items.items (halves l.space l.hash l.offset l.pair)
