-- What copying, moving, freezing and publishing do to the table of a space.
use Rattle.std.specs.Prelude.{◌≡◌, ℕ, ◌+◌, ◌<◌, map, false, true, List, [], ◌∷◌, ◌++◌, length, slice_get, slice_index, slice_set, Option, None, Some, Contains}
use Rattle.rr_space.specs.Graph.{Name, Own, Published, Value, At, Label, Object, Reaches, IsShareable}
use Rattle.rr_space.specs.Graph.{Matches, Alike, IsAt}
use Rattle.rr_space.specs.Tables.{Slot, Here, Led, Below, Whole, Table, IsRestKept, Packed, space_graph, message_graph, resolve, resolve_object, published_at, below_hold, IsPublished}
use Rattle.rr_space.specs.Tables.{renamed, renamed_object, behind, here_behind}
use Rattle.rr_space.specs.Views.{emptied}

-- the objects that v leads to are frozen, and nothing else changes
pub record IsDeepFrozen (v : Value) (old new : Table) : Type 0 where
  pub below : new.below ≡ old.below
  pub size : length new.slots ≡ length old.slots
  pub reached : (n : ℕ) (o : Object) → Reaches (space_graph old) (resolve old.slots v) (Own n) → slice_get old.slots n ≡ Some (Here o) → slice_get new.slots n ≡ Some (Here (record o { frozen = true }))
  pub others : (n : ℕ) → (Reaches (space_graph old) (resolve old.slots v) (Own n) → ⊥) → slice_get new.slots n ≡ slice_get old.slots n

-- each shareable object of the space that v leads to is a published one already
abbrev pub IsPromoted : Table → Value → Type 0
IsPromoted t v = (n : ℕ) → Reaches (space_graph t) (resolve t.slots v) (Own n) → IsShareable (space_graph t) (At (Own n)) → ⊥

-- the message holds a copy of the part of v
pub record IsCopy (t : Table) (v : Value) (names : List ℕ) (m : Packed) : Type 0 where
  pub alike : Alike (space_graph t) (resolve t.slots v) (message_graph m) m.root (IsAt names)
  pub size : length m.objects ≡ length names
  pub keys : (n i : ℕ) → IsAt names n i → slice_get m.keys i ≡ slice_get t.keys n

-- each named place of the list has x, and all others have what they had
pub record IsSetAt {A : Type 0} (names : List ℕ) (x : A) (old new : List A) : Type 0 where
  pub size : length new ≡ length old
  pub named : (n : ℕ) → Contains names n → slice_get new n ≡ Some x
  pub others : (n : ℕ) → (Contains names n → ⊥) → slice_get new n ≡ slice_get old n

-- the place that the i-th name names has the i-th of the elements, and all others have what they had
pub record IsPutAt {A : Type 0} (names : List ℕ) (xs old new : List A) : Type 0 where
  pub size : length new ≡ length old
  pub named : (n i : ℕ) (x : A) → IsAt names n i → slice_get xs i ≡ Some x → slice_get new n ≡ Some x
  pub others : (n : ℕ) → (Contains names n → ⊥) → slice_get new n ≡ slice_get old n

-- each named slot is a shell, without keys and without clusters, and all other slots are as they were
pub record IsEmptied (names : List ℕ) (old new : Table) : Type 0 where
  pub slots : IsSetAt names (Here emptied) old.slots new.slots
  pub below : IsSetAt names [] old.below new.below
  pub keys : IsSetAt names [] old.keys new.keys
  pub limit : new.limit ≡ old.limit
  pub owner : new.owner ≡ old.owner

-- a name among objects that were taken out of these slots, once they are back in them
abbrev pub home_name : List ℕ → Name → Name
home_name names (Own i) = Own (slice_index names i)
home_name names (Published c p) = Published c p

abbrev pub here_home : List ℕ → Object → Slot
here_home names o = Here (renamed_object (home_name names) o)

-- the shell of the i-th name is the i-th object of the message again, with its keys and its clusters and the old names in
-- place of the message's; nothing else changes
pub record IsPutBack (names : List ℕ) (m : Packed) (old new : Table) : Type 0 where
  pub slots : IsPutAt names (map (here_home names) m.objects) old.slots new.slots
  pub below : IsPutAt names m.below old.below new.below
  pub keys : IsPutAt names m.keys old.keys new.keys
  pub rest : IsRestKept old new

-- the slots, once each named one in turn is a forward to the next place of the cluster, the first to place i
abbrev pub forwarded_from : ℕ → ℕ → List ℕ → List Slot → List Slot
forwarded_from c i [] slots = slots
forwarded_from c i (n ∷ places) slots = forwarded_from c (i + 1) places (slice_set slots n (Led c i))

-- the slots of a plan, once they are forwards to the places of its cluster, and all others as they were
abbrev pub forwarded : ℕ → List ℕ → List Slot → List Slot
forwarded c places slots = forwarded_from c 0 places slots

-- the i-th named slot is a forward to place i of the cluster, and nothing else changes
pub record IsForwarded (number : ℕ) (places : List ℕ) (old new : List Slot) : Type 0 where
  pub size : length new ≡ length old
  pub named : (n i : ℕ) → IsAt places n i → slice_get new n ≡ Some (Led number i)
  pub others : (n : ℕ) → (Contains places n → ⊥) → slice_get new n ≡ slice_get old n

-- forwards of a plan's slots are a function of its places
abbrev pub ForwardedIsExact : Type 0
ForwardedIsExact = (c : ℕ) (places : List ℕ) (old : List Slot) → ((n i j : ℕ) → IsAt places n i → IsAt places n j → i ≡ j)
    → ((n i : ℕ) → IsAt places n i → n < length old) → IsForwarded c places old (forwarded c places old)

-- the slots of the places are forwards to the cluster, in their order, without keys and above the cluster alone; nothing
-- else changes
pub record IsPromotedTo (w : Whole) (places : List ℕ) (old new : Table) : Type 0 where
  pub slots : IsForwarded w.number places old.slots new.slots
  pub below : IsSetAt places (below_hold w) old.below new.below
  pub keys : IsSetAt places [] old.keys new.keys
  pub rest : IsRestKept old new

-- the cluster is a plan's of the slots of these places: frozen objects, each once, copied in their order; what they lead to
-- is in the cluster or published
pub record IsPlanned (t : Table) (w : Whole) (places : List ℕ) : Type 0 where
  pub distinct : (n i j : ℕ) → IsAt places n i → IsAt places n j → i ≡ j
  pub count : length w.own ≡ length places
  pub same : (n i : ℕ) → IsAt places n i → (o p : Object) × (slice_get t.slots n ≡ Some (Here o)) × (slice_get w.own i ≡ Some p)
      × (o.frozen ≡ true) × Matches (IsAt places) (resolve_object t.slots o) p

-- the message's objects come behind the old slots, and the root with them
pub record IsOpened (m : Packed) (old new : Table) (v : Value) : Type 0 where
  pub slots : new.slots ≡ old.slots ++ map (here_behind (length old.slots)) m.objects
  pub below : new.below ≡ old.below ++ m.below
  pub keys : new.keys ≡ old.keys ++ m.keys
  pub rest : IsRestKept old new
  pub root : v ≡ renamed (behind (length old.slots)) m.root

-- what stands in a slot of these slots, its values resolved; where a forward stands, the object that it leads to
abbrev pub resolved_in : List Slot → Option Slot → Option Below → Option Object
resolved_in slots (Some (Here o)) below = Some (resolve_object slots o)
resolved_in slots (Some (Led c p)) (Some below) = published_at below c p
resolved_in slots (Some (Led c p)) None = None
resolved_in slots None below = None

abbrev pub resolved_at : Table → ℕ → Option Object
resolved_at t n = resolved_in t.slots (slice_get t.slots n) (slice_get t.below n)

-- under the name n of the new table is the object o as it was, its values read through the new forwards. It stands there
-- still, or was frozen and is published now, with all that it leads to
pub record IsObjectKept (new : Table) (n : ℕ) (o : Object) : Type 0 where
  pub same : resolved_at new n ≡ Some (resolve_object new.slots o)
  pub open_stays : o.frozen ≡ false → (p : Object) × (slice_get new.slots n ≡ Some (Here p))
  pub led : (c p : ℕ) (l : Label) (x : Value) → slice_get new.slots n ≡ Some (Led c p) → Contains o.triples (l, x) → IsPublished (resolve new.slots x)

-- each object is as it was, up to forwards that came since; what was a forward is that forward, and the keys of a hash stay
-- while it stands there; others may have come behind
pub record IsKept (old new : Table) : Type 0 where
  pub objects : (n : ℕ) (o : Object) → slice_get old.slots n ≡ Some (Here o) → IsObjectKept new n o
  pub forwards : (n c p : ℕ) → slice_get old.slots n ≡ Some (Led c p) → (slice_get new.slots n ≡ Some (Led c p)) × (slice_get new.below n ≡ slice_get old.below n)
  pub keys : (n : ℕ) (o p : Object) → slice_get old.slots n ≡ Some (Here o) → slice_get new.slots n ≡ Some (Here p) → slice_get new.keys n ≡ slice_get old.keys n

abbrev pub KeepingAddsUp : Type 0
KeepingAddsUp = (old mid new : Table) → IsKept old mid → IsKept mid new → IsKept old new

-- what is promoted is kept
abbrev pub PromotingKeeps : Type 0
PromotingKeeps = (w : Whole) (places : List ℕ) (old new : Table) → IsPlanned old w places → IsPromotedTo w places old new → IsKept old new

-- what is opened leaves what was there
abbrev pub OpeningKeeps : Type 0
OpeningKeeps = (m : Packed) (old new : Table) (v : Value) → length old.below ≡ length old.slots → length old.keys ≡ length old.slots → IsOpened m old new v → IsKept old new

-- what is moved away and put back is kept
abbrev pub PuttingBackKeeps : Type 0
PuttingBackKeeps = (names : List ℕ) (v : Value) (m : Packed) (was now new : Table) → length was.keys ≡ length was.slots
    → IsCopy was v names m → IsEmptied names was now → IsPutBack names m now new → IsKept was new
