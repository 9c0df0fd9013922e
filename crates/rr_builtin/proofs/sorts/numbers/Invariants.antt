use Rattle.std.proofs.Common.{◌≡◌, Ok}
use Rattle.rr_builtin.specs.Elements.{each_as}
use Rattle.rr_builtin.specs.Sums.{integer_of}
use Rattle.rr_builtin.proofs.Listing.{listed}
use Rattle.rr_builtin.proofs.sorts.numbers.Given as goal

abbrev pub invariant-loop-place : goal.invariant-loop-place
invariant-loop-place l = each_as integer_of (listed l.space l.array l.place) ≡ Ok l.numbers.items
