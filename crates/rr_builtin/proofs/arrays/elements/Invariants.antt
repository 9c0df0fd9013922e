use Rattle.rr_builtin.proofs.Listing.{listed}
use Rattle.rr_builtin.proofs.Gathering.{IsGathered}
use Rattle.rr_builtin.proofs.arrays.elements.Given as goal

abbrev pub invariant-loop-place : goal.invariant-loop-place
invariant-loop-place l = IsGathered l.space l.array l.items.items (listed l.space l.array l.place)
