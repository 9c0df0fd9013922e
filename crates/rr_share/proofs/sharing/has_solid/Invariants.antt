use Rattle.std.proofs.Common.{◌≡◌, ◌<◌, ℕ, slice_get, Some}
use Rattle.rr_share.specs.Search.{IsSolidAt}
use Rattle.rr_share.proofs.sharing.has_solid.Given as goal

abbrev pub invariant-loop-place : goal.invariant-loop-place
invariant-loop-place l = (i n : ℕ) → i < l.place → slice_get l.found i ≡ Some n → IsSolidAt l.space.slots n → ⊥
