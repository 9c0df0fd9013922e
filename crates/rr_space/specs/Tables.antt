-- What contracts see of a space, of a cluster and of a message, the graph that each is, and graphs inside others.
use Rattle.std.specs.Prelude.{◌≡◌, ℕ, ◌<◌, List, [], ◌∷◌, ◌++◌, length, map, Option, None, Some, slice_get, nat_eq, cond, Contains, ◌+◌}
use Rattle.std.specs.Option.{option_and_then}
use Rattle.rr_space.specs.Graph.{Graph, Immediate, Name, Own, Published, Value, Plain, At, Label, Object, IsSolid}

-- what stands in a slot: an object, or a forward to a published one
pub data Slot : Type 0 where
  Here : (object : Object) → Slot
  Led : (number place : ℕ) → Slot

-- the objects of the clusters that are led to, by cluster number
abbrev pub Below : Type 0
Below = List (ℕ × List Object)

-- a cluster: its number, its objects under names of their own, and the clusters below it
pub record Whole : Type 0 where
  pub number : ℕ
  pub own : List Object
  pub below : Below

-- what finds a pair of a hash: an immediate, or the bytes of a text
pub data HashKey : Type 0 where
  PlainKey : (immediate : Immediate) → HashKey
  TextKey : (bytes : List ℕ) → HashKey

-- a space: its slots, for each slot the clusters that it leads to and the keys of a hash, the most slots that it may
-- have, its ractor, and the number that the next message has that is moved out of it
pub record Table : Type 0 where
  pub slots : List Slot
  pub below : List Below
  pub keys : List (List HashKey)
  pub limit : ℕ
  pub owner : ℕ
  pub next_message : ℕ

-- what a table has beside its slots stays: the limit, the owner and the number of the next message
pub record IsRestKept (old new : Table) : Type 0 where
  pub limit : new.limit ≡ old.limit
  pub owner : new.owner ≡ old.owner
  pub next_message : new.next_message ≡ old.next_message

-- a name inside a cluster, seen from outside
abbrev pub numbered_name : ℕ → Name → Name
numbered_name c (Own p) = Published c p
numbered_name c (Published d p) = Published d p

abbrev pub numbered : ℕ → Value → Value
numbered c (Plain i) = Plain i
numbered c (At n) = At (numbered_name c n)

abbrev pub numbered_triple : ℕ → Label × Value → Label × Value
numbered_triple c t = (t.0, numbered c t.1)

abbrev pub numbered_object : ℕ → Object → Object
numbered_object c o = record o { triples = map (numbered_triple c) o.triples }

-- the objects of a cluster, seen from outside
abbrev pub outer_objects : Whole → List Object
outer_objects w = map (numbered_object w.number) w.own

-- the clusters that a hold on a cluster leads to, that cluster first
abbrev pub below_hold : Whole → Below
below_hold w = (w.number, outer_objects w) ∷ w.below

-- the clusters of one list after another
abbrev pub joined : List Below → Below
joined [] = []
joined (b ∷ bs) = b ++ joined bs

abbrev pub cluster_at : Below → ℕ → Option (List Object)
cluster_at [] c = None
cluster_at (e ∷ es) c = cond (nat_eq c e.0) (Some e.1) (cluster_at es c)

abbrev pub published_at : Below → ℕ → ℕ → Option Object
published_at below c p = option_and_then (λ os. slice_get os p) (cluster_at below c)

-- where a name of a slot ends: at the slot, or where its forward leads
abbrev pub end_of : Slot → ℕ → Name
end_of (Here o) n = Own n
end_of (Led c p) n = Published c p

abbrev pub resolve_slot : Option Slot → ℕ → Name
resolve_slot None n = Own n
resolve_slot (Some s) n = end_of s n

abbrev pub resolve : List Slot → Value → Value
resolve slots (Plain i) = Plain i
resolve slots (At (Own n)) = At (resolve_slot (slice_get slots n) n)
resolve slots (At (Published c p)) = At (Published c p)

abbrev pub resolve_triple : List Slot → Label × Value → Label × Value
resolve_triple slots t = (t.0, resolve slots t.1)

abbrev pub resolve_object : List Slot → Object → Object
resolve_object slots o = record o { triples = map (resolve_triple slots) o.triples }

abbrev pub object_in : List Slot → Slot → Option Object
object_in slots (Here o) = Some (resolve_object slots o)
object_in slots (Led c p) = None

-- the graph of a list of slots and of the clusters below them
abbrev pub graph_of : List Slot → Below → Graph
graph_of slots below (Own n) = option_and_then (object_in slots) (slice_get slots n)
graph_of slots below (Published c p) = published_at below c p

-- the graph of a space
abbrev pub space_graph : Table → Graph
space_graph t = graph_of t.slots (joined t.below)

-- a message: its objects, for each of them the clusters that it leads to and the keys of a hash, its root and the
-- clusters of the root, its sender and its sequence number
pub record Packed : Type 0 where
  pub objects : List Object
  pub below : List Below
  pub keys : List (List HashKey)
  pub root : Value
  pub root_below : Below
  pub sender : ℕ
  pub sequence : ℕ

-- the graph of a message is that of a space without forwards
abbrev pub message_graph : Packed → Graph
message_graph m = graph_of (map Here m.objects) (m.root_below ++ joined m.below)

abbrev pub IsPublished : Value → Type 0
IsPublished (Plain i) = Unit {0}
IsPublished (At (Own n)) = ⊥
IsPublished (At (Published c p)) = Unit {0}

-- published objects are frozen, no shells, and lead to published objects and immediates alone
pub record IsSealed (g : Graph) : Type 0 where
  pub solid : (c p : ℕ) (o : Object) → g (Published c p) ≡ Some o → IsSolid o
  pub shut : (c p : ℕ) (o : Object) (l : Label) (x : Value) → g (Published c p) ≡ Some o → Contains o.triples (l, x) → IsPublished x

-- the value is an immediate, a published object, or a name below the length
abbrev pub IsBelow : ℕ → Value → Type 0
IsBelow k (Plain i) = Unit {0}
IsBelow k (At (Own n)) = n < k
IsBelow k (At (Published c p)) = Unit {0}

-- a message is closed: each triple out of its objects, and its root, ends at an immediate, at one of its own or at a
-- published object
pub record IsClosed (m : Packed) : Type 0 where
  pub objects : (n : ℕ) (o : Object) (l : Label) (x : Value) → slice_get m.objects n ≡ Some o → Contains o.triples (l, x) → IsBelow (length m.objects) x
  pub root : IsBelow (length m.objects) m.root

-- ---- A graph inside another, under other names.

abbrev pub renamed : (Name → Name) → Value → Value
renamed f (Plain n) = Plain n
renamed f (At n) = At (f n)

abbrev pub renamed_triple : (Name → Name) → Label × Value → Label × Value
renamed_triple f t = (t.0, renamed f t.1)

abbrev pub renamed_object : (Name → Name) → Object → Object
renamed_object f o = record o { triples = map (renamed_triple f) o.triples }

-- what the value names is an object of the graph
abbrev pub There : Graph → Value → Type 0
There g v = (m : Name) → v ≡ At m → (p : Object) × (g m ≡ Some p)

-- each object of g is an object of whole, under the name that f gives it, and no triple leads out of g
pub record Embeds (g : Graph) (f : Name → Name) (whole : Graph) : Type 0 where
  pub here : (n : Name) (o : Object) → g n ≡ Some o → whole (f n) ≡ Some (renamed_object f o)
  pub shut : (n : Name) (o : Object) (l : Label) (x : Value) → g n ≡ Some o → Contains o.triples (l, x) → There g x
  pub one : (n m : Name) (o p : Object) → g n ≡ Some o → g m ≡ Some p → f n ≡ f m → n ≡ m

-- a name of a table that goes behind k slots
abbrev pub behind : ℕ → Name → Name
behind k (Own i) = Own (k + i)
behind k (Published c p) = Published c p

abbrev pub here_behind : ℕ → Object → Slot
here_behind k o = Here (renamed_object (behind k) o)
