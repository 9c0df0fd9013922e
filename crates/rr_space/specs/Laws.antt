-- What follows from the definitions: of searches, copies, marks, freezing, moving and promoting.
use Rattle.std.specs.Prelude.{◌≡◌, ℕ, ◌↔◌, List, Some, Contains, ◌⊎◌, slice_get, map, ◌<◌, length, ◌+◌, true, []}
use Rattle.rr_space.specs.Graph.{SameValue, Matches, Alike, IsAt, Graph, Own, Value, At, Label, Object, IsSolid, IsShareable, Reaches, Name, Published, IsAlike, Paired, IsFreeOfShells, IsPart}
use Rattle.rr_space.specs.Tables.{IsSealed, Embeds, There, renamed, Table, Packed, space_graph, message_graph, resolve, IsClosed, Here, IsBelow, behind, Slot, joined}
use Rattle.rr_space.specs.Moves.{IsDeepFrozen, IsPromoted, IsEmptied}
use Rattle.rr_space.specs.Readings.{Knows, IsShut, Owner, Shared, Objects, Naming, Layout, IsReading, name_in, whole}

-- the list has the slot of v, is closed under triples between slots, and has only what v leads to
pub record IsFoundFrom (g : Graph) (v : Value) (found : List ℕ) : Type 0 where
  pub root : (m : ℕ) → v ≡ At (Own m) → Contains found m
  pub closed : (n m : ℕ) (o : Object) (l : Label) → Contains found n → g (Own n) ≡ Some o → Contains o.triples (l, At (Own m)) → Contains found m
  pub sound : (m : ℕ) → Contains found m → Reaches g v (Own m)

-- a search that stops at published objects decides who is shareable
abbrev pub LeavesSuffice : Type 0
LeavesSuffice = (g : Graph) (v : Value) (found : List ℕ) → IsSealed g → IsFoundFrom g v found
    → (IsShareable g v ↔ ((n : ℕ) (o : Object) → Contains found n → g (Own n) ≡ Some o → IsSolid o))

-- a message whose objects match, place by place, the named slots of a promoted graph is alike to its root
pub record Copied (g : Graph) (v : Value) (names : List ℕ) (h : Graph) (w : Value) : Type 0 where
  pub exact : (n : ℕ) → Contains names n ↔ Reaches g v (Own n)
  pub distinct : (n i j : ℕ) → IsAt names n i → IsAt names n j → i ≡ j
  pub left_sealed : IsSealed g
  pub right_sealed : IsSealed h
  pub promoted : (n : ℕ) → Reaches g v (Own n) → IsShareable g (At (Own n)) → ⊥
  pub there : (n m : ℕ) (o : Object) → IsAt names n m → g (Own n) ≡ Some o → (p : Object) × (h (Own m) ≡ Some p) × Matches (IsAt names) o p
  pub back : (n m : ℕ) (p : Object) → IsAt names n m → h (Own m) ≡ Some p → (o : Object) × (g (Own n) ≡ Some o) × Matches (IsAt names) o p
  pub roots : SameValue (IsAt names) v w

-- a copy that matches place by place is alike to what it was copied from
abbrev pub CopiesAreAlike : Type 0
CopiesAreAlike = (g : Graph) (v : Value) (names : List ℕ) (h : Graph) (w : Value) → Copied g v names h w → Alike g v h w (IsAt names)

-- ---- Who is shareable, from marks that spread backwards from what is not solid.

-- found is closed under triples between slots; marked is closed backwards, has all of found that is not solid, and only
-- what leads to such
pub record Marked (g : Graph) (found marked : List ℕ) : Type 0 where
  pub sealed : IsSealed g
  pub closed : (n m : ℕ) (o : Object) (l : Label) → Contains found n → g (Own n) ≡ Some o → Contains o.triples (l, At (Own m)) → Contains found m
  pub decides : (n : ℕ) (o : Object) → Contains found n → g (Own n) ≡ Some o → IsSolid o ⊎ Contains marked n
  pub back : (n m : ℕ) (o : Object) (l : Label) → Contains found n → g (Own n) ≡ Some o → Contains o.triples (l, At (Own m)) → Contains marked m → Contains marked n
  pub sound : (n : ℕ) → Contains marked n → (m : ℕ) × (o : Object) × Reaches g (At (Own n)) (Own m) × (g (Own m) ≡ Some o) × (IsSolid o → ⊥)

-- what was found and not marked is shareable, and what is marked is not
abbrev pub MarksDecide : Type 0
MarksDecide = (g : Graph) (found marked : List ℕ) (n : ℕ) → Marked g found marked → Contains found n
    → ((Contains marked n → ⊥) → IsShareable g (At (Own n))) × (Contains marked n → IsShareable g (At (Own n)) → ⊥)

-- ---- What is alike in two graphs is alike in the graphs that they are inside of.

-- two graphs inside two others, with the same names for published objects
pub record Inside (g : Graph) (f : Name → Name) (gs : Graph) (h : Graph) (e : Name → Name) (hs : Graph) : Type 0 where
  pub left : Embeds g f gs
  pub right : Embeds h e hs
  pub left_sealed : IsSealed g
  pub right_sealed : IsSealed h
  pub published : (c p : ℕ) → f (Published c p) ≡ e (Published c p)

abbrev pub AlikeInside : Type 0
AlikeInside = (g : Graph) (f : Name → Name) (gs : Graph) (h : Graph) (e : Name → Name) (hs : Graph) (v w : Value) (names : List ℕ) (right : List Name)
    → Inside g f gs h e hs → There g v → There h w → Alike g v h w (IsAt names)
    → ((i : ℕ) (o : Object) → h (Own i) ≡ Some o → slice_get right i ≡ Some (e (Own i)))
    → IsAlike gs (renamed f v) hs (renamed e w) (Paired (map (λ n. f (Own n)) names) right)

-- ---- What follows from a change of a table: from packing, freezing, publishing and emptying.

-- the root of a closed message leads to its own objects and to published ones alone
abbrev pub ClosedStaysInside : Type 0
ClosedStaysInside = (m : Packed) → IsClosed m → IsSealed (message_graph m) → (n : ℕ) → Reaches (message_graph m) m.root (Own n) → n < length m.objects

-- what was frozen throughout is shareable, where it led to no shell
abbrev pub FrozenIsShareable : Type 0
FrozenIsShareable = (v : Value) (old new : Table) → IsSealed (space_graph old) → IsDeepFrozen v old new
    → IsFreeOfShells (space_graph old) (resolve old.slots v) → IsShareable (space_graph new) (resolve new.slots v)

-- where all shareable objects are published ones, the part of a value is what it leads to in its space
abbrev pub PromotedIsPart : Type 0
PromotedIsPart = (t : Table) (v : Value) → IsPromoted t v → (n : ℕ)
    → (Reaches (space_graph t) (resolve t.slots v) (Own n) ↔ IsPart (space_graph t) (resolve t.slots v) (Own n))

-- what leads to an emptied slot is not shareable, so that it is not published
abbrev pub EmptiedIsNotShareable : Type 0
EmptiedIsNotShareable = (names : List ℕ) (old new : Table) → IsEmptied names old new → (n : ℕ) → Contains names n
    → (v : Value) → Reaches (space_graph new) v (Own n) → IsShareable (space_graph new) v → ⊥

-- ---- What follows from what freezing, moving and promoting do to the table of a space.

-- freezing leaves each object what it leads to, and a frozen object as it was
abbrev pub DeepFreezingKeeps : Type 0
DeepFreezingKeeps = (v : Value) (old new : Table) (n : ℕ) (o : Object) → IsDeepFrozen v old new → slice_get old.slots n ≡ Some (Here o)
    → Reaches (space_graph old) (resolve old.slots v) (Own n) ⊎ (Reaches (space_graph old) (resolve old.slots v) (Own n) → ⊥)
    → (p : Object) × (slice_get new.slots n ≡ Some (Here p)) × (p.kind ≡ o.kind) × (p.triples ≡ o.triples) × (o.frozen ≡ true → p ≡ o)

-- to empty no slot changes nothing
abbrev pub EmptyingNothing : Type 0
EmptyingNothing = (old new : Table) → IsEmptied [] old new → (new.slots ≡ old.slots) × (new.below ≡ old.below) × (new.keys ≡ old.keys)

-- a promoted value that is shareable leads to no object of the space
abbrev pub PromotedIsPublished : Type 0
PromotedIsPublished = (t : Table) (v : Value) (n : ℕ) → IsPromoted t v → IsShareable (space_graph t) (resolve t.slots v) → Reaches (space_graph t) (resolve t.slots v) (Own n) → ⊥

-- what a closed message leads to is there once its objects stand behind k others
abbrev pub ClosedStandsBehind : Type 0
ClosedStandsBehind = (m : Packed) (k n : ℕ) (o : Object) (l : Label) (x : Value) → IsClosed m → slice_get m.objects n ≡ Some o → Contains o.triples (l, x)
    → IsBelow (k + length m.objects) (renamed (behind k) x) × IsBelow (k + length m.objects) (renamed (behind k) m.root)

-- ---- What a pack gives is alike in the whole graph, and a world without objects has a reading.

-- a table of a holder, with what its type keeps
pub record IsHolding (tables : Layout) (h : Owner) (t : Table) : Type 0 where
  pub is : tables h ≡ Some t.slots
  pub unshared : (c : ℕ) → h ≡ Shared c → ⊥
  pub knows : Knows (joined t.below) tables
  pub shut : IsShut (space_graph t)
  pub sealed : IsSealed (space_graph t)

abbrev pub CopiesAreAlikeInTheWhole : Type 0
CopiesAreAlikeInTheWhole = (tables : Layout) (names : Naming) (bound : ℕ) (g : Objects) (h k : Owner) (t u : Table) (v w : Value) (places : List ℕ)
    → IsReading tables names bound g → IsHolding tables h t → IsHolding tables k u → There (space_graph t) v → There (space_graph u) w
    → Alike (space_graph t) v (space_graph u) w (IsAt places)
    → IsAlike (whole g) (renamed (name_in names h) v) (whole g) (renamed (name_in names k) w)
    (Paired (map (λ n. name_in names h (Own n)) places) (map Own (names k)))

abbrev pub EmptyIsRead : Type 0
EmptyIsRead = (tables : Layout) → ((h : Owner) (t : List Slot) → tables h ≡ Some t → t ≡ []) → (names : Naming) × (g : Objects) × IsReading tables names 0 g
