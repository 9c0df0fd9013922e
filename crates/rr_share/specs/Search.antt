-- How far a search through the graph of a space has come.
use Rattle.std.specs.Prelude.{◌≡◌, ℕ, ◌+◌, ◌<◌, ◌⊎◌, ◌↔◌, nat_eq, List, ◌++◌, length, slice_get, Some, Contains}
use Rattle.std.specs.List.{IsDistinct}
use Rattle.rr_space.specs.Graph.{Graph, Name, Own, Value, At, Label, Object, Reaches, IsSolid, shell}
use Rattle.rr_space.specs.Tables.{Slot, Here, Table, space_graph, resolve, resolve_slot}
use Rattle.rr_space.specs.Parts.{value_of}
use Rattle.rr_space.specs.declared.refer.Ref.{Ref}
use Rattle.rr_space.specs.declared.refer.Ref.TheVariants.{Local}

-- no forward stands in the slot
abbrev pub IsSettled : List Slot → ℕ → Type 0
IsSettled slots n = resolve_slot (slice_get slots n) n ≡ Own n

-- the triple at k of the object in slot n ends at slot m
abbrev pub LeadsAt : Graph → ℕ → ℕ → ℕ → Type 0
LeadsAt g n k m = (o : Object) × (l : Label) × (g (Own n) ≡ Some o) × (slice_get o.triples k ≡ Some (l, At (Own m)))

-- one of the first k triples of the object in slot n ends at slot m
abbrev pub LeadsBelow : Graph → ℕ → ℕ → ℕ → Type 0
LeadsBelow g n k m = (i : ℕ) × (i < k) × LeadsAt g n i m

-- a triple of the object in slot n ends at slot m
abbrev pub LeadsOn : Graph → ℕ → ℕ → Type 0
LeadsOn g n m = (i : ℕ) × LeadsAt g n i m

-- behind the old ones stands what E has of new ones, and nothing else
pub record Adds (E : ℕ → Type 0) (old new : List ℕ) : Type 0 where
  pub more : List ℕ
  pub is : new ≡ old ++ more
  pub all : (m : ℕ) → E m → Contains new m
  pub only : (m : ℕ) → Contains more m → E m

-- a search has found where it starts, nothing but what is sound, and what the first ones step to
pub record Searched (Start : ℕ → Type 0) (Step : ℕ → ℕ → Type 0) (Sound : ℕ → Type 0) (cursor : ℕ) (found : List ℕ) : Type 0 where
  pub start : (m : ℕ) → Start m → Contains found m
  pub sound : (m : ℕ) → Contains found m → Sound m
  pub closed : (i n m : ℕ) → i < cursor → slice_get found i ≡ Some n → Step n m → Contains found m

-- what a search from the root may find
pub record IsReached (t : Table) (root : Ref) (m : ℕ) : Type 0 where
  pub reach : Reaches (space_graph t) (resolve t.slots (value_of root)) (Own m)
  pub settled : IsSettled t.slots m
  pub near : (m < length t.slots) ⊎ (root ≡ Local m)
  pub local : (s : ℕ) × (root ≡ Local s)

-- the number of slots up to the root
abbrev pub slots_to : Ref → ℕ
slots_to (Local n) = n + 1
slots_to _ = 0

-- a shell stands in the slot
abbrev pub IsShellAt : List Slot → ℕ → Type 0
IsShellAt slots n = (o : Object) × (slice_get slots n ≡ Some (Here o)) × (o.kind ≡ shell)

-- some path from v ends at a shell
abbrev pub LeadsToShell : Graph → Value → Type 0
LeadsToShell g v = (n : Name) × (o : Object) × Reaches g v n × (g n ≡ Some o) × (o.kind ≡ shell)

-- the slots are those of the objects of the space that v leads to, each once
pub record AreReached (t : Table) (v : Value) (slots : List ℕ) : Type 0 where
  pub exact : (n : ℕ) → Contains slots n ↔ Reaches (space_graph t) (resolve t.slots v) (Own n)
  pub distinct : IsDistinct nat_eq slots

-- what stands in the slot is frozen and no shell, if it is an object
abbrev pub IsSolidAt : List Slot → ℕ → Type 0
IsSolidAt slots n = (o : Object) → slice_get slots n ≡ Some (Here o) → IsSolid o
