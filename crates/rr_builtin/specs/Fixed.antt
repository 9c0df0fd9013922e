-- What no act changes.
use Rattle.std.specs.Prelude.{◌≡◌, ◌⊎◌, ℕ, List, true, Some, slice_get}
use Rattle.rr_space.specs.Graph.{Object, shell}
use Rattle.rr_space.specs.Tables.{Slot, Here, Led}

-- each object stays in its slot, a frozen one and a shell as they are, and forwards stay
pub record KeepsFixed (old new : List Slot) : Type 0 where
  pub objects : (n : ℕ) (o : Object) → slice_get old n ≡ Some (Here o) → (p : Object) × (slice_get new n ≡ Some (Here p)) × ((o.frozen ≡ true) ⊎ (o.kind ≡ shell) → p ≡ o)
  pub forwards : (n c p : ℕ) → slice_get old n ≡ Some (Led c p) → slice_get new n ≡ Some (Led c p)
