use Rattle.std.proofs.Common.{◌≡◌, ◌<◌, ℕ, slice_get, Some}
use Rattle.rr_share.specs.Search.{Adds}
use Rattle.rr_share.proofs.marks.add_set.Given as goal

abbrev pub invariant-loop-place : goal.invariant-loop-place
invariant-loop-place l = Adds (λ n. (i : ℕ) × (i < l.place) × (slice_get l.more i ≡ Some n)) l.initial.set l.set
