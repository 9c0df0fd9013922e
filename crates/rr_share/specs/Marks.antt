-- What leads to the slots that were found.
use Rattle.std.specs.Prelude.{◌≡◌, ◌↔◌, ◌<◌, ◌⊎◌, ℕ, List, length, slice_get, Some, Contains}
use Rattle.rr_space.specs.Graph.{Graph, Own, At, Object, Reaches, IsSolid}
use Rattle.rr_space.specs.Tables.{Table, space_graph}
use Rattle.rr_share.specs.Search.{IsSettled, LeadsBelow, LeadsOn}

-- no forwards stand in the slots, and what they lead to is among them
pub record Closed (t : Table) (found : List ℕ) : Type 0 where
  pub settled : (n : ℕ) → Contains found n → IsSettled t.slots n
  pub shut : (n m : ℕ) → Contains found n → LeadsOn (space_graph t) n m → Contains found m

-- at the place of m the list has the n of which D holds with m, and no others
pub record Sourced (found : List ℕ) (D : ℕ → ℕ → Type 0) (lists : List (List ℕ)) : Type 0 where
  pub size : length lists ≡ length found
  pub exact : (i m : ℕ) (list : List ℕ) → slice_get found i ≡ Some m → slice_get lists i ≡ Some list → (n : ℕ) → Contains list n ↔ D n m

-- a triple leads from n to m, of one of the first p slots or among the first k of the next one
abbrev pub LeadsBefore : Graph → List ℕ → ℕ → ℕ → ℕ → ℕ → Type 0
LeadsBefore g found p k n m = ((i : ℕ) × (i < p) × (slice_get found i ≡ Some n) × LeadsOn g n m) ⊎ ((slice_get found p ≡ Some n) × LeadsBelow g n k m)

-- the slot was found, and its object leads to one that is not solid
pub record IsMarkable (t : Table) (slots : List ℕ) (n : ℕ) : Type 0 where
  pub found : Contains slots n
  pub leads : (m : ℕ) × (o : Object) × Reaches (space_graph t) (At (Own n)) (Own m) × (space_graph t (Own m) ≡ Some o) × (IsSolid o → ⊥)
