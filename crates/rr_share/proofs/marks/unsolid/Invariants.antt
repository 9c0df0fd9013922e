use Rattle.std.proofs.Common.{◌≡◌, ◌<◌, ℕ, [], slice_get, Some}
use Rattle.rr_share.specs.Search.{Adds, IsSolidAt}
use Rattle.rr_share.proofs.marks.unsolid.Given as goal

abbrev pub invariant-loop-place : goal.invariant-loop-place
invariant-loop-place l = Adds (λ n. (i : ℕ) × (i < l.place) × (slice_get l.found i ≡ Some n) × (IsSolidAt l.space.slots n → ⊥)) [] l.unsolid
