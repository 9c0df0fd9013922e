use Rattle.std.proofs.Common.{◌≡◌, ◌<◌, ◌≤◌, ℕ, [], slice_get, Some}
use Rattle.rr_share.specs.Search.{Adds}
use Rattle.rr_share.proofs.marks.slots_from.Given as goal

abbrev pub invariant-loop-place : goal.invariant-loop-place
invariant-loop-place l = Adds (λ n. (i : ℕ) × (l.fn.start ≤ i) × (i < l.place) × (slice_get l.set i ≡ Some n)) [] l.rest
