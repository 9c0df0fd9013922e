-- The whole graph of a world: names are numbers, each object has an owner, and each table is read in it.
use Rattle.std.specs.Prelude.{◌≡◌, ℕ, ◌<◌, ◌⊎◌, Bool, false, List, length, Option, None, Some, slice_get, slice_index, nat_eq, ◌&&◌, Contains, map}
use Rattle.std.specs.Option.{option_map}
use Rattle.rr_space.specs.Graph.{Graph, Name, Own, Published, Value, Plain, At, Label, Object, Reaches, IsSolid}
use Rattle.rr_space.specs.Tables.{Slot, Here, Led, renamed, renamed_object, Table, Below, joined, numbered_object, space_graph, Embeds, There}

-- a ractor, its hand, a message in an inbox, a message in a port, or a cluster
pub data Owner : Type 0 where
  Space : (ractor : ℕ) → Owner
  Hand : (ractor : ℕ) → Owner
  Mail : (channel ticket : ℕ) → Owner
  Shown : (port ticket : ℕ) → Owner
  Shared : (number : ℕ) → Owner

abbrev pub owner_eq : Owner → Owner → Bool
owner_eq (Space r) (Space s) = nat_eq r s
owner_eq (Hand r) (Hand s) = nat_eq r s
owner_eq (Mail c t) (Mail d u) = nat_eq c d && nat_eq t u
owner_eq (Shown c t) (Shown d u) = nat_eq c d && nat_eq t u
owner_eq (Shared c) (Shared d) = nat_eq c d
owner_eq (Space r) (Hand s) = false
owner_eq (Space r) (Mail d u) = false
owner_eq (Space r) (Shown d u) = false
owner_eq (Space r) (Shared d) = false
owner_eq (Hand r) (Space s) = false
owner_eq (Hand r) (Mail d u) = false
owner_eq (Hand r) (Shown d u) = false
owner_eq (Hand r) (Shared d) = false
owner_eq (Mail c t) (Space s) = false
owner_eq (Mail c t) (Hand s) = false
owner_eq (Mail c t) (Shown d u) = false
owner_eq (Mail c t) (Shared d) = false
owner_eq (Shown c t) (Space s) = false
owner_eq (Shown c t) (Hand s) = false
owner_eq (Shown c t) (Mail d u) = false
owner_eq (Shown c t) (Shared d) = false
owner_eq (Shared c) (Space s) = false
owner_eq (Shared c) (Hand s) = false
owner_eq (Shared c) (Mail d u) = false
owner_eq (Shared c) (Shown d u) = false

pub record Owned : Type 0 where
  pub owner : Owner
  pub object : Object

abbrev pub Objects : Type 0
Objects = ℕ → Option Owned

-- one list of names for each table
abbrev pub Naming : Type 0
Naming = Owner → List ℕ

-- the tables that there are
abbrev pub Layout : Type 0
Layout = Owner → Option (List Slot)

abbrev pub object_part : Owned → Object
object_part x = x.object

abbrev pub whole : Objects → Graph
whole g (Own n) = option_map object_part (g n)
whole g (Published c p) = None

abbrev pub name_in : Naming → Owner → Name → Name
name_in names h (Own i) = Own (slice_index (names h) i)
name_in names h (Published c p) = Own (slice_index (names (Shared c)) p)

abbrev pub named : Naming → Owner → Object → Object
named names h o = renamed_object (name_in names h) o

abbrev pub HasPlace : Layout → ℕ → ℕ → Type 0
HasPlace tables c p = (u : List Slot) × (o : Object) × (tables (Shared c) ≡ Some u) × (slice_get u p ≡ Some (Here o))

-- the value is an immediate, a slot of the table, or a place that there is
abbrev pub IsInLayout : Layout → List Slot → Value → Type 0
IsInLayout tables t (Plain n) = Unit {0}
IsInLayout tables t (At (Own i)) = i < length t
IsInLayout tables t (At (Published c p)) = HasPlace tables c p

-- what the types of spaces, messages and clusters keep of one table
pub record IsSound (tables : Layout) (t : List Slot) : Type 0 where
  pub within : (i : ℕ) (o : Object) (l : Label) (x : Value) → slice_get t i ≡ Some (Here o) → Contains o.triples (l, x) → IsInLayout tables t x
  pub led : (i c p : ℕ) → slice_get t i ≡ Some (Led c p) → HasPlace tables c p

-- one table read in the whole graph under its names
pub record Reads (tables : Layout) (names : Naming) (g : Objects) (h : Owner) (t : List Slot) : Type 0 where
  pub size : length (names h) ≡ length t
  pub here : (i : ℕ) (o : Object) → slice_get t i ≡ Some (Here o) → g (slice_index (names h) i) ≡ Some (record { owner = h; object = named names h o })
  pub led : (i c p : ℕ) → slice_get t i ≡ Some (Led c p) → slice_index (names h) i ≡ slice_index (names (Shared c)) p
  pub one : (i j : ℕ) (o p : Object) → slice_get t i ≡ Some (Here o) → slice_get t j ≡ Some (Here p) → slice_index (names h) i ≡ slice_index (names h) j → i ≡ j

-- where the whole graph has an object
pub record Stands (tables : Layout) (names : Naming) (n : ℕ) (h : Owner) : Type 0 where
  pub table : List Slot
  pub place : ℕ
  pub raw : Object
  pub is_table : tables h ≡ Some table
  pub is_raw : slice_get table place ≡ Some (Here raw)
  pub is_name : slice_index (names h) place ≡ n

-- the whole graph under a naming: each table is read, nothing else is there, and no name passes the bound
pub record IsReading (tables : Layout) (names : Naming) (bound : ℕ) (g : Objects) : Type 0 where
  pub sound : (h : Owner) (t : List Slot) → tables h ≡ Some t → IsSound tables t
  pub reads : (h : Owner) (t : List Slot) → tables h ≡ Some t → Reads tables names g h t
  pub only : (n : ℕ) (x : Owned) → g n ≡ Some x → Stands tables names n x.owner
  pub bounded : (n : ℕ) (x : Owned) → g n ≡ Some x → n < bound

-- the owner is a cluster
abbrev pub IsShared : Owner → Type 0
IsShared h = (c : ℕ) × (h ≡ Shared c)

-- what the value names is an object of the holder h, or a shared one
abbrev pub IsLocal : Owner → Objects → Value → Type 0
IsLocal h g v = (m : Name) → v ≡ At m → (n : ℕ) × (x : Owned) × (m ≡ Own n) × (g n ≡ Some x) × ((x.owner ≡ h) ⊎ IsShared x.owner)

-- the value is an immediate, or names a shared object
abbrev pub IsSharedValue : Objects → Value → Type 0
IsSharedValue g v = (m : Name) → v ≡ At m → (n : ℕ) × (x : Owned) × (m ≡ Own n) × (g n ≡ Some x) × IsShared x.owner

-- what two different holders both reach is shared; and shared objects are frozen, no shells, and lead to shared ones and
-- immediates alone
pub record IsApart (g : Objects) : Type 0 where
  pub apart : (h k : Owner) (v w : Value) (n : ℕ) (x : Owned) → (h ≡ k → ⊥) → IsLocal h g v → IsLocal k g w
      → Reaches (whole g) v (Own n) → Reaches (whole g) w (Own n) → g n ≡ Some x → IsShared x.owner
  pub solid : (n : ℕ) (x : Owned) → g n ≡ Some x → IsShared x.owner → IsSolid x.object
  pub shut : (n : ℕ) (x : Owned) (l : Label) (v : Value) → g n ≡ Some x → IsShared x.owner → Contains x.object.triples (l, v) → IsSharedValue g v

-- what the store keeps of the clusters: their objects are frozen and no shells, and lead to the cluster itself and to
-- earlier clusters alone
pub record AreClustersInOrder (tables : Layout) : Type 0 where
  pub solid : (c p : ℕ) (u : List Slot) (o : Object) → tables (Shared c) ≡ Some u → slice_get u p ≡ Some (Here o) → IsSolid o
  pub earlier : (c p d q : ℕ) (u : List Slot) (o : Object) (l : Label) → tables (Shared c) ≡ Some u → slice_get u p ≡ Some (Here o)
      → Contains o.triples (l, At (Published d q)) → d < c

abbrev pub ReadingsAreApart : Type 0
ReadingsAreApart = (tables : Layout) (names : Naming) (bound : ℕ) (g : Objects) → IsReading tables names bound g → AreClustersInOrder tables → IsApart g

-- a value of a holder's table is local to it
abbrev pub RootsAreLocal : Type 0
RootsAreLocal = (tables : Layout) (names : Naming) (bound : ℕ) (g : Objects) (h : Owner) (t : List Slot) (v : Value) → IsReading tables names bound g
    → tables h ≡ Some t → IsInLayout tables t v → IsLocal h g (renamed (name_in names h) v)

-- ---- What a space has to keep so that its graph is inside the whole graph.

-- what a table knows of clusters is what the store has: each entry is the store's cluster of that number
pub record Knows (below : Below) (tables : Layout) : Type 0 where
  pub known : (c : ℕ) (os : List Object) → Contains below (c, os)
      → (raws : List Object) × (tables (Shared c) ≡ Some (map Here raws)) × (map (numbered_object c) raws ≡ os)

-- no triple leads out of the graph
pub record IsShut (g : Graph) : Type 0 where
  pub all : (n : Name) (o : Object) (l : Label) (x : Value) → g n ≡ Some o → Contains o.triples (l, x) → There g x

abbrev pub SpacesAreInside : Type 0
SpacesAreInside = (tables : Layout) (names : Naming) (bound : ℕ) (g : Objects) (h : Owner) (t : Table) → IsReading tables names bound g
    → tables h ≡ Some t.slots → ((c : ℕ) → h ≡ Shared c → ⊥) → Knows (joined t.below) tables → IsShut (space_graph t)
    → Embeds (space_graph t) (name_in names h) (whole g)
