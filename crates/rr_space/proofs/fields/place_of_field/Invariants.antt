use Rattle.std.proofs.Common.{◌≡◌, ℕ, ◌<◌, slice_get, Some}
use Rattle.rr_space.specs.Views.{field_names}
use Rattle.rr_space.proofs.fields.place_of_field.Given as goal

abbrev pub invariant-loop-k : goal.invariant-loop-k
invariant-loop-k l = (j : ℕ) → j < l.k → slice_get (field_names l.fields) j ≡ Some l.name.0 → ⊥
