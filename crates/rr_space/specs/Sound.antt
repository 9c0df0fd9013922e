-- What the types of spaces, messages and clusters keep: no reference leads nowhere, and what is published is frozen.
use Rattle.std.specs.Prelude.{◌≡◌, ℕ, ◌*◌, ◌<◌, ◌≤◌, List, length, Some, slice_get, Contains}
use Rattle.rr_space.specs.Graph.{Own, Published, Value, Plain, At, Label, Object, IsSolid, hash}
use Rattle.rr_space.specs.Tables.{Slot, Here, Led, Below, Whole, Table, HashKey, joined, graph_of, IsSealed}
use Rattle.rr_space.specs.Readings.{Knows, IsShut}
use Rattle.rr_space.specs.Readings.{Layout}

-- a cluster of that number is in the list, and it has the place
abbrev pub HasPlaceIn : Below → ℕ → ℕ → Type 0
HasPlaceIn below c p = (os : List Object) × Contains below (c, os) × (p < length os)

-- the value is an immediate, a name below k, or a place of a cluster in the list
abbrev pub IsStanding : ℕ → Below → Value → Type 0
IsStanding k below (Plain i) = Unit {0}
IsStanding k below (At (Own n)) = n < k
IsStanding k below (At (Published c p)) = HasPlaceIn below c p

-- each value of the object stands
abbrev pub IsObjectSound : ℕ → Below → Object → Type 0
IsObjectSound k below o = (l : Label) (x : Value) → Contains o.triples (l, x) → IsStanding k below x

-- the clusters of the list are frozen throughout, hold no shells, and lead to clusters of the list alone
pub record IsBelowSound (below : Below) : Type 0 where
  pub solid : (c : ℕ) (os : List Object) (p : ℕ) (o : Object) → Contains below (c, os) → slice_get os p ≡ Some o → IsSolid o
  pub within : (c : ℕ) (os : List Object) (p : ℕ) (o : Object) → Contains below (c, os) → slice_get os p ≡ Some o → IsObjectSound 0 below o

abbrev pub IsSlotSound : ℕ → Slot → Below → Type 0
IsSlotSound k (Here o) below = IsObjectSound k below o
IsSlotSound k (Led c p) below = HasPlaceIn below c p

-- each slot leads to slots that there are, and to the clusters that are listed for it
pub record IsTableSound (ss : List Slot) (bs : List Below) : Type 0 where
  pub count : length bs ≡ length ss
  pub slots : (n : ℕ) (s : Slot) (b : Below) → slice_get ss n ≡ Some s → slice_get bs n ≡ Some b → IsSlotSound (length ss) s b
  pub below : (n : ℕ) (b : Below) → slice_get bs n ≡ Some b → IsBelowSound b

-- each slot has its list of keys, and a hash has as many keys as pairs
pub record IsKeyed (t : Table) : Type 0 where
  pub count : length t.keys ≡ length t.slots
  pub pairs : (n : ℕ) (o : Object) (ks : List HashKey) → slice_get t.slots n ≡ Some (Here o) → slice_get t.keys n ≡ Some ks → o.kind ≡ hash → length o.triples ≡ 2 * length ks

-- what each space keeps
pub record IsWell (t : Table) : Type 0 where
  pub room : length t.slots ≤ t.limit
  pub sound : IsTableSound t.slots t.below
  pub keyed : IsKeyed t

-- what each cluster keeps: it is frozen throughout, holds no shells, and leads to itself and to the clusters below it
pub record IsWholeSound (w : Whole) : Type 0 where
  pub solid : (p : ℕ) (o : Object) → slice_get w.own p ≡ Some o → IsSolid o
  pub within : (p : ℕ) (o : Object) → slice_get w.own p ≡ Some o → IsObjectSound (length w.own) w.below o
  pub below : IsBelowSound w.below

-- the cluster has the place
pub record IsHold (place : ℕ) (w : Whole) : Type 0 where
  pub within : place < length w.own
  pub sound : IsWholeSound w

-- published objects of a sound table are frozen, no shells, and lead to published ones alone
abbrev pub SoundIsSealed : Type 0
SoundIsSealed = (slots : List Slot) (below : List Below) → IsTableSound slots below → IsSealed (graph_of slots (joined below))

-- where the clusters that a sound table knows are the store's, no triple leads out of its graph
abbrev pub SoundIsShut : Type 0
SoundIsShut = (tables : Layout) (slots : List Slot) (below : List Below) → IsTableSound slots below → Knows (joined below) tables
    → IsShut (graph_of slots (joined below))
