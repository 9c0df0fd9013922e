use Rattle.std.proofs.Common.{◌≡◌, Ok}
use Rattle.rr_builtin.proofs.Listing.{listed}
use Rattle.rr_builtin.specs.Sums.{IsSumOfSoMany, integers_of, totalled}
use Rattle.rr_builtin.proofs.sums.total.Given as goal

abbrev pub invariant-loop-place : goal.invariant-loop-place
invariant-loop-place l = (totalled (integers_of (listed l.space l.array l.place)) ≡ Ok l.sum) × IsSumOfSoMany l.place l.sum
