-- What a store is.
use Rattle.std.specs.Prelude.{◌≡◌, ℕ, ◌+◌, ◌≤◌, ◌<◌, ◌^◌, List, [], length, Option, Some, slice_get}
use Rattle.std.specs.Option.{option_map, option_and_then}
use Rattle.rr_base.specs.declared.name.Sym.{Sym}
use Rattle.rr_base.specs.declared.event.StoreEvent.{StoreEvent}
use Rattle.rr_base.specs.Replay.{Replays}
use Rattle.rr_base.specs.Store.{Mark, IsShared, IsOwn, StoreShape, StoreStep, empty_store}
use Rattle.rr_space.specs.Tables.{Whole}
use Rattle.rr_space.specs.Parts.{IsWithin}
use Rattle.rr_store.specs.declared.constant.ConstValue.{ConstValue}
use Rattle.rr_store.specs.declared.constant.ConstValue.TheVariants.{Shareable, Own}

-- the clusters by their numbers, what each constant was last set to by the number of its name, the history and its
-- limit
pub record Store : Type 0 where
  pub clusters : List Whole
  pub constants : List (Option ConstValue)
  pub history : List (StoreEvent Sym)
  pub limit : ℕ

abbrev pub new_store : ℕ → Store
new_store limit = record { clusters = []; constants = []; history = []; limit = limit }

abbrev pub itself : Option ConstValue → Option ConstValue
itself c = c

-- what a name has
abbrev pub constant_in : List (Option ConstValue) → Sym → Option ConstValue
constant_in cs n = option_and_then itself (slice_get cs n.0)

abbrev pub constant_of : Store → Sym → Option ConstValue
constant_of s n = constant_in s.constants n

abbrev pub mark_of : ConstValue → Mark
mark_of (Shareable v) = IsShared
mark_of Own = IsOwn

-- the number of clusters, and the mark of each name
abbrev pub shape_of : Store → StoreShape Sym
shape_of s = record { clusters = length s.clusters; marks = λ n. option_map mark_of (constant_of s n) }

-- an immediate, or a place of a published cluster
abbrev pub IsPublic : ConstValue → Type 0
IsPublic (Shareable v) = IsWithin 0 v
IsPublic Own = Unit {0}

-- the history has room for another event
abbrev pub HasEvent : Store → Type 0
HasEvent s = length s.history + 1 ≤ s.limit

-- each cluster stands under its number
abbrev pub AreNumbered : List Whole → Type 0
AreNumbered ws = (i : ℕ) (w : Whole) → slice_get ws i ≡ Some w → w.number ≡ i

-- what every store keeps
pub record Kept (s : Store) : Type 0 where
  pub replays : Replays StoreStep empty_store s.history (shape_of s)
  pub numbered : AreNumbered s.clusters
  pub public : (n : Sym) (c : ConstValue) → constant_of s n ≡ Some c → IsPublic c
  pub count : length s.clusters ≤ length s.history
  pub within : length s.history ≤ s.limit
  pub limit : s.limit < 2 ^ 32
