-- How what stands in a slot gives its object, keys and clusters; what writes, carrying and renumbering do to it.
use Rattle.std.specs.Prelude.{nat_eq, not, ◌&&◌, ℕ, Bool, true, false, List, [], ◌∷◌, map, slice_get, Option, Some, None, slice_set, ◌≡◌, length, Contains, ◌⊎◌, ◌+◌, ◌<◌, ◌++◌, slice_index}
use Rattle.std.specs.List.{IsDistinct}
use Rattle.rr_base.specs.declared.name.Sym.{Sym}
use Rattle.rr_base.specs.declared.name.TheConstants.ClassId.{ARRAY, HASH, MOVED_OBJECT, STRING}
use Rattle.rr_space.specs.Graph.{Nil, Truth, Integer, SymbolNo, ClassNo, RactorNo, Kind, Object, text, array, hash, plain, exception, shell, Value, Label, Place, KeyAt, ValueAt, Own, At, SameValue, IsAt}
use Rattle.rr_space.specs.Tables.{joined, Below, Slot, Here, Led, Table, HashKey, PlainKey, TextKey, below_hold, outer_objects, published_at, resolve, here_behind}
use Rattle.rr_space.specs.Parts.{Parts, places_from, pairs_from, field_part, raised_parts, below_ref, below_parts, value_triple, bytes_of, is_frozen_object}
use Rattle.rr_space.specs.Sound.{IsHold}
use Rattle.rr_space.specs.declared.refer.Ref.{Ref}
use Rattle.rr_space.specs.declared.refer.Ref.TheVariants.{Local, Shared}
use Rattle.rr_space.specs.declared.node.Key.{Key}
use Rattle.rr_space.specs.declared.node.Key.TheVariants.{Nil as NilKey, Truth as TruthKey, Int as IntKey, Symbol as SymbolKey, Class as ClassKey, Ractor as RactorKey, Text as BytesKey}
use Rattle.rr_space.specs.declared.node.Node.{Node}
use Rattle.rr_space.specs.declared.node.Node.TheVariants.{Text, Array, Hash, Object as PlainObject, Exception}
use Rattle.rr_space.specs.declared.node.Held.{Held}
use Rattle.rr_space.specs.declared.node.Held.TheVariants.{Whole, Shell, Forward}
use Rattle.rr_space.specs.declared.carried.Carried.{Carried}
pub use Rattle.rr_space.specs.Parts.{value_of, IsWithin, AllWithin}

-- a key of a hash as contracts see it
abbrev pub key_of : Key → HashKey
key_of NilKey = PlainKey Nil
key_of (TruthKey b) = PlainKey (Truth b)
key_of (IntKey z) = PlainKey (Integer z)
key_of (SymbolKey s) = PlainKey (SymbolNo s)
key_of (ClassKey c) = PlainKey (ClassNo c)
key_of (RactorKey r) = PlainKey (RactorNo r)
key_of (BytesKey bytes) = TextKey bytes.items

abbrev pub entry_key : Key × (Ref × Ref) → HashKey
entry_key e = key_of e.0

abbrev pub entry_pair : Key × (Ref × Ref) → Ref × Ref
entry_pair e = e.1

abbrev pub field_number : Sym × Ref → ℕ
field_number f = f.0.0

abbrev pub node_parts : Node → Parts
node_parts (Text bytes) = []
node_parts (Array items) = places_from 0 items
node_parts (Hash entries) = pairs_from 0 (map entry_pair entries.value.entries)
node_parts (PlainObject class fields) = map field_part fields.items
node_parts (Exception class raised) = raised_parts raised.value

-- the elements of an array; none of anything else
abbrev pub node_items : Node → List Ref
node_items (Array items) = items
node_items _ = []

-- the pairs of a hash, in order of insertion; none of anything else
abbrev pub node_pairs : Node → List (Ref × Ref)
node_pairs (Hash entries) = map entry_pair entries.value.entries
node_pairs _ = []

-- the keys of a hash, in order of insertion; none of anything else
abbrev pub node_keys : Node → List HashKey
node_keys (Hash entries) = map entry_key entries.value.entries
node_keys _ = []

abbrev pub node_kind : Node → Kind
node_kind (Text bytes) = text
node_kind (Array items) = array
node_kind (Hash entries) = hash
node_kind (PlainObject class fields) = plain
node_kind (Exception class raised) = exception

abbrev pub node_class : Node → ℕ
node_class (Text bytes) = STRING.0
node_class (Array items) = ARRAY.0
node_class (Hash entries) = HASH.0
node_class (PlainObject class fields) = class.0
node_class (Exception class raised) = class.0

abbrev pub node_bytes : Node → List ℕ
node_bytes (Text bytes) = bytes.items
node_bytes _ = []

abbrev pub node_object : Node → Bool → Object
node_object node frozen = record { kind = node_kind node; class = node_class node; bytes = node_bytes node; frozen = frozen; triples = map value_triple (node_parts node) }

-- the object that a node is, not frozen
abbrev pub object_of : Node → Object
object_of node = node_object node false

abbrev pub below_node : Node → Below
below_node node = below_parts (node_parts node)

-- what is left of an object that was moved away
abbrev pub emptied : Object
emptied = record { kind = shell; class = MOVED_OBJECT.0; bytes = []; frozen = false; triples = [] }

abbrev pub slot_of : Held → Slot
slot_of (Whole frozen node) = Here (node_object node frozen)
slot_of Shell = Here emptied
slot_of (Forward p c) = Led c.now.number p

abbrev pub below_held : Held → Below
below_held (Whole frozen node) = below_node node
below_held Shell = []
below_held (Forward p c) = below_hold c.now

abbrev pub held_keys : Held → List HashKey
held_keys (Whole frozen node) = node_keys node
held_keys Shell = []
held_keys (Forward p c) = []

-- each reference of the node is within
abbrev pub IsNodeWithin : ℕ → Node → Type 0
IsNodeWithin k node = AllWithin k (node_parts node)

abbrev pub IsHeldWithin : ℕ → Held → Type 0
IsHeldWithin k (Whole frozen node) = IsNodeWithin k node
IsHeldWithin k Shell = Unit {0}
IsHeldWithin k (Forward p c) = IsHold p c.now

abbrev pub AllHeldWithin : ℕ → List Held → Type 0
AllHeldWithin k [] = Unit {0}
AllHeldWithin k (h ∷ hs) = IsHeldWithin k h × AllHeldWithin k hs

-- the object of a slot, or of the place that its forward leads to
abbrev pub slot_object : Option Slot → Option Below → Option Object
slot_object (Some (Here o)) below = Some o
slot_object (Some (Led c p)) (Some below) = published_at below c p
slot_object (Some (Led c p)) None = None
slot_object None below = None

-- the object that a reference leads to, if any, its values as they stand there
abbrev pub object_at : Table → Ref → Option Object
object_at t (Local n) = slot_object (slice_get t.slots n) (slice_get t.below n)
object_at t (Shared p c) = slice_get (outer_objects c.now) p
object_at t _ = None

-- the bytes of the text that a reference leads to, none for anything else
abbrev pub text_at : Table → Ref → List ℕ
text_at t r = bytes_of (object_at t r)

abbrev pub is_shell : Kind → Bool
is_shell shell = true
is_shell _ = false

-- an object that is no shell
abbrev pub is_whole : Option Slot → Bool
is_whole (Some (Here o)) = not (is_shell o.kind)
is_whole (Some (Led c p)) = false
is_whole None = false

-- an object that is no shell and not frozen
abbrev pub is_open : Option Slot → Bool
is_open (Some (Here o)) = not (is_shell o.kind) && not o.frozen
is_open (Some (Led c p)) = false
is_open None = false

-- a frozen object
abbrev pub is_frozen_here : Option Slot → Bool
is_frozen_here (Some (Here o)) = o.frozen
is_frozen_here (Some (Led c p)) = false
is_frozen_here None = false

-- the reference is a slot of an object that may be frozen
abbrev pub can_freeze_at : Table → Ref → Bool
can_freeze_at t (Local n) = is_whole (slice_get t.slots n)
can_freeze_at t _ = false

-- the reference is a slot of an object that may be written
abbrev pub can_write_at : Table → Ref → Bool
can_write_at t (Local n) = is_open (slice_get t.slots n)
can_write_at t _ = false

-- each cluster that the reference leads to is one that the table knows
abbrev pub IsKnownTo : Table → Ref → Type 0
IsKnownTo t r = (e : ℕ × List Object) → Contains (below_ref r) e → Contains (joined t.below) e

-- the same, or one that the value leads to that the reference was read from
abbrev pub IsKnownFrom : Table → Ref → Ref → Type 0
IsKnownFrom t value r = (e : ℕ × List Object) → Contains (below_ref r) e → Contains (joined t.below) e ⊎ Contains (below_ref value) e

-- no two fields of the object have one name
abbrev pub AreFieldsDistinct : Node → Type 0
AreFieldsDistinct (Text bytes) = Unit {0}
AreFieldsDistinct (Array items) = Unit {0}
AreFieldsDistinct (Hash entries) = Unit {0}
AreFieldsDistinct (PlainObject class fields) = IsDistinct nat_eq (map field_number fields.items)
AreFieldsDistinct (Exception class raised) = IsDistinct nat_eq (map field_number raised.value.fields.items)

-- the table with another thing in the slot n
abbrev pub with_held : Table → ℕ → Held → Table
with_held t n h = record t { slots = slice_set t.slots n (slot_of h); below = slice_set t.below n (below_held h); keys = slice_set t.keys n (held_keys h) }

-- what stands in the slot n of the table
pub record StandsAt (t : Table) (n : ℕ) (h : Held) : Type 0 where
  pub slot : slice_get t.slots n ≡ Some (slot_of h)
  pub below : slice_get t.below n ≡ Some (below_held h)
  pub keys : slice_get t.keys n ≡ Some (held_keys h)

-- what the slot n leads to now it led to before, or came in; all other slots lead where they led
pub record IsLedAlso (more : Below) (n : ℕ) (old new : List Below) : Type 0 where
  pub size : length new ≡ length old
  pub others : (m : ℕ) → (m ≡ n → ⊥) → slice_get new m ≡ slice_get old m
  pub same : (a b : Below) (e : ℕ × List Object) → slice_get old n ≡ Some a → slice_get new n ≡ Some b → Contains b e → Contains a e ⊎ Contains more e

-- the same, where the value came in
abbrev pub IsLedBy : Ref → ℕ → List Below → List Below → Type 0
IsLedBy value n old new = IsLedAlso (below_ref value) n old new

-- kind, class, bytes and keys are the same, whatever the references are
pub record IsHeadKept (old new : Node) : Type 0 where
  pub kind : node_kind new ≡ node_kind old
  pub class : node_class new ≡ node_class old
  pub bytes : node_bytes new ≡ node_bytes old
  pub keys : node_keys new ≡ node_keys old

-- kind, class, references and keys are the same, whatever the bytes are
pub record IsAllButBytesKept (old new : Node) : Type 0 where
  pub kind : node_kind new ≡ node_kind old
  pub class : node_class new ≡ node_class old
  pub parts : node_parts new ≡ node_parts old
  pub keys : node_keys new ≡ node_keys old

-- kind, class and bytes are the same, whatever the references and keys are
pub record IsBareHeadKept (old new : Node) : Type 0 where
  pub kind : node_kind new ≡ node_kind old
  pub class : node_class new ≡ node_class old
  pub bytes : node_bytes new ≡ node_bytes old

-- the reference is an immediate, or leads to a frozen object
abbrev pub frozen_at : Table → Ref → Bool
frozen_at t (Local n) = is_frozen_object (object_at t (Local n))
frozen_at t (Shared p c) = is_frozen_object (object_at t (Shared p c))
frozen_at t _ = true

-- ---- What a write does to what an object leads to.

-- i is the first place at which the list has x
pub record IsFirstAt {A : Type 0} (xs : List A) (x : A) (i : ℕ) : Type 0 where
  pub here : slice_get xs i ≡ Some x
  pub before : (j : ℕ) → j < i → slice_get xs j ≡ Some x → ⊥

-- the elements of an array under their places, the first of them under k
abbrev pub placed_from : ℕ → List Value → List (Label × Value)
placed_from k [] = []
placed_from k (v ∷ vs) = (Place k, v) ∷ placed_from (k + 1) vs

-- the keys and values of a hash in turn, the first pair of them under k
abbrev pub paired_from : ℕ → List (Value × Value) → List (Label × Value)
paired_from k [] = []
paired_from k (p ∷ ps) = (KeyAt k, p.0) ∷ (ValueAt k, p.1) ∷ paired_from (k + 1) ps

abbrev pub pair_values : Ref × Ref → Value × Value
pair_values p = (value_of p.0, value_of p.1)

abbrev pub label_part : Label × Value → Label
label_part t = t.0

abbrev pub ref_label : Label × Ref → Label
ref_label t = t.0

-- the names of fields, in their order
abbrev pub field_names : List (Sym × Ref) → List ℕ
field_names fs = map (λ f. f.0.0) fs

abbrev pub keys_here : Option Slot → Option (List HashKey) → Option (List HashKey)
keys_here (Some (Here o)) keys = keys
keys_here (Some (Led c p)) keys = None
keys_here None keys = None

-- the keys of the hash in the slot that the reference names; none where the slot is a forward
abbrev pub keys_at : Table → Ref → Option (List HashKey)
keys_at t (Local n) = keys_here (slice_get t.slots n) (slice_get t.keys n)
keys_at t _ = None

-- the name that a key has where it stands in a hash; where it stands nowhere, the given one
abbrev pub kept_name : {R : Type 0} → Option (R × R) → R → R
kept_name None name = name
kept_name (Some pair) name = pair.0

-- ---- Objects on their way from one space to another.

abbrev pub carried_object : Carried → Object
carried_object c = node_object c.node c.frozen

abbrev pub carried_below : Carried → Below
carried_below c = below_node c.node

abbrev pub carried_keys : Carried → List HashKey
carried_keys c = node_keys c.node

-- each reference of the objects is within
abbrev pub AllCarriedWithin : ℕ → List Carried → Type 0
AllCarriedWithin k [] = Unit {0}
AllCarriedWithin k (c ∷ cs) = IsNodeWithin k c.node × AllCarriedWithin k cs

-- where the reference leads to a slot of the table, the slot goes along
abbrev pub IsKnown : Table → List ℕ → Ref → Type 0
IsKnown t names r = (m : ℕ) → resolve t.slots (value_of r) ≡ At (Own m) → Contains names m

-- the second reference is the first, as those see it who go with it
pub record IsCarried (t : Table) (names : List ℕ) (r s : Ref) : Type 0 where
  pub same : SameValue (IsAt names) (resolve t.slots (value_of r)) (value_of s)
  pub within : IsWithin (length t.slots) r → IsWithin (length names) s
  pub below : (e : ℕ × List Object) → Contains (below_ref s) e → Contains (joined t.below) e ⊎ Contains (below_ref r) e

-- a reference under a label
pub record IsCarriedPart (t : Table) (names : List ℕ) (p q : Label × Ref) : Type 0 where
  pub label : p.0 ≡ q.0
  pub value : IsCarried t names p.1 q.1

-- a field under its name
pub record IsCarriedField (t : Table) (names : List ℕ) (f g : Sym × Ref) : Type 0 where
  pub name : f.0 ≡ g.0
  pub value : IsCarried t names f.1 g.1

-- a pair of a hash under its key
pub record IsCarriedEntry (t : Table) (names : List ℕ) (d e : Key × (Ref × Ref)) : Type 0 where
  pub key : key_of d.0 ≡ key_of e.0
  pub name : IsCarried t names d.1.0 e.1.0
  pub value : IsCarried t names d.1.1 e.1.1

-- ---- References and objects that come behind k slots.

abbrev pub ref_behind : ℕ → Ref → Ref
ref_behind k (Local n) = Local (k + n)
ref_behind k r = r

abbrev pub part_behind : ℕ → Label × Ref → Label × Ref
part_behind k t = (t.0, ref_behind k t.1)

abbrev pub field_behind : ℕ → Sym × Ref → Sym × Ref
field_behind k f = (f.0, ref_behind k f.1)

abbrev pub entry_behind : ℕ → Key × (Ref × Ref) → Key × (Ref × Ref)
entry_behind k e = (e.0, (ref_behind k e.1.0, ref_behind k e.1.1))

-- a slot of an object that goes behind k slots
abbrev pub slot_behind : ℕ → Carried → Slot
slot_behind k c = here_behind k (carried_object c)

-- what stands in slots is what stood in them, and the objects behind k slots
pub record IsAppended (k : ℕ) (old : List Held) (objects : List Carried) (new : List Held) : Type 0 where
  pub count : length new ≡ length old + length objects
  pub slots : map slot_of new ≡ map slot_of old ++ map (slot_behind k) objects
  pub below : map below_held new ≡ map below_held old ++ map carried_below objects
  pub keys : map held_keys new ≡ map held_keys old ++ map carried_keys objects
  pub within : (n : ℕ) → AllHeldWithin (k + n) old → AllCarriedWithin n objects → AllHeldWithin (k + n) new

-- ---- References that have other numbers elsewhere.

-- the label is the same, and R relates the references under it
pub record IsRenumberedPart (R : Ref → Ref → Type 0) (p q : Label × Ref) : Type 0 where
  pub label : p.0 ≡ q.0
  pub value : R p.1 q.1

-- the name is the same, and R relates the values of the field
pub record IsRenumberedField (R : Ref → Ref → Type 0) (f g : Sym × Ref) : Type 0 where
  pub name : f.0 ≡ g.0
  pub value : R f.1 g.1

-- the key is the same, and R relates the references of the pair
pub record IsRenumberedEntry (R : Ref → Ref → Type 0) (d e : Key × (Ref × Ref)) : Type 0 where
  pub key : d.0 ≡ e.0
  pub name : R d.1.0 e.1.0
  pub value : R d.1.1 e.1.1

-- the slot that the place is of, and any other reference as it is
abbrev pub ref_home : List ℕ → Ref → Ref
ref_home names (Local i) = Local (slice_index names i)
ref_home names r = r
