-- What freezing does to the slots of a space, one after another.
use Rattle.std.specs.Prelude.{◌≡◌, ℕ, ◌<◌, true, List, length, slice_get, Some}
use Rattle.rr_space.specs.Graph.{Object}
use Rattle.rr_space.specs.Tables.{Slot, Here}

-- the objects of the first slots found are frozen, and nothing else changed
pub record FrozeFirst (count : ℕ) (found : List ℕ) (old new : List Slot) : Type 0 where
  pub size : length new ≡ length old
  pub done : (k n : ℕ) (o : Object) → k < count → slice_get found k ≡ Some n → slice_get old n ≡ Some (Here o) → slice_get new n ≡ Some (Here (record o { frozen = true }))
  pub rest : (n : ℕ) → ((k : ℕ) → k < count → slice_get found k ≡ Some n → ⊥) → slice_get new n ≡ slice_get old n
