-- Each key of a hash is the key that its key object is: what that says, and which changes keep it.
use Rattle.std.specs.Prelude.{◌≡◌, ◌+◌, ◌*◌, ◌++◌, ℕ, true, false, List, [], ◌∷◌, length, map, remove, Option, Some, None, slice_get, slice_set, Contains}
use Rattle.rr_space.specs.Graph.{Object, hash, Own, Published, Value, Plain, At, Label, ValueAt, KeyAt, IsAt, Matches}
use Rattle.rr_space.specs.Tables.{Table, Slot, Here, Led, Below, HashKey, PlainKey, TextKey, published_at, joined, resolve_object, here_behind}
use Rattle.rr_space.specs.Parts.{value_of, below_ref}
use Rattle.rr_space.specs.Lookups.{key_of_frozen, key_at, IsOneEach, frozen_text}
use Rattle.rr_space.specs.Views.{emptied, paired_from}
use Rattle.rr_space.specs.declared.refer.Ref.{Ref}

-- the key that what stands in a slot is: the bytes of a frozen text, which may stand where a forward leads
abbrev pub slot_key : Below → Option Slot → Option HashKey
slot_key below (Some (Here o)) = key_of_frozen (Some o)
slot_key below (Some (Led c p)) = key_of_frozen (published_at below c p)
slot_key below None = None

-- the key that a value of a table is: an immediate, or the bytes of the frozen text that it leads to
abbrev pub value_key : Below → List Slot → Value → Option HashKey
value_key below slots (Plain i) = Some (PlainKey i)
value_key below slots (At (Own n)) = slot_key below (slice_get slots n)
value_key below slots (At (Published c p)) = key_of_frozen (published_at below c p)

-- the hash in the slot n has the key k under i, where its key object is x
abbrev pub HasKey : List Slot → List (List HashKey) → ℕ → ℕ → HashKey → Value → Type 0
HasKey slots keys n i k x = (o : Object) × (ks : List HashKey) × (l : Label) × (slice_get slots n ≡ Some (Here o)) × (o.kind ≡ hash) × (slice_get keys n ≡ Some ks)
    × (slice_get ks i ≡ Some k) × (slice_get o.triples (2 * i) ≡ Some (l, x))

-- each key of each hash is the key that its key object is
abbrev pub AreKeysNamed : Below → List Slot → List (List HashKey) → Type 0
AreKeysNamed below slots keys = (n i : ℕ) (k : HashKey) (x : Value) → HasKey slots keys n i k x → value_key below slots x ≡ Some k

-- each key is the key that the object under it is, in a table of these slots
abbrev pub AreNamed : Below → List Slot → List HashKey → Object → Type 0
AreNamed below slots ks o = (i : ℕ) (k : HashKey) (l : Label) (x : Value) → o.kind ≡ hash → slice_get ks i ≡ Some k → slice_get o.triples (2 * i) ≡ Some (l, x) → value_key below slots x ≡ Some k

-- the key that a reference is is that of its value
abbrev pub KeyIsNamed : Type 0
KeyIsNamed = (t : Table) (below : Below) (r : Ref) (k : HashKey) → IsOneEach below
    → ((e : ℕ × List Object) → Contains (joined t.below) e → Contains below e) → ((e : ℕ × List Object) → Contains (below_ref r) e → Contains below e)
    → key_at t r ≡ Some k → value_key below t.slots (value_of r) ≡ Some k

-- an object that is not frozen is written, and is no hash
abbrev pub OtherIsWritten : Type 0
OtherIsWritten = (below : Below) (slots : List Slot) (keys : List (List HashKey)) (n : ℕ) (o p : Object) → AreKeysNamed below slots keys
    → slice_get slots n ≡ Some (Here o) → o.frozen ≡ false → (p.kind ≡ hash → ⊥) → AreKeysNamed below (slice_set slots n (Here p)) keys

-- a pair of a hash gets another value
abbrev pub ValueIsWritten : Type 0
ValueIsWritten = (below : Below) (slots : List Slot) (keys : List (List HashKey)) (n i : ℕ) (o : Object) (v : Value) → AreKeysNamed below slots keys
    → slice_get slots n ≡ Some (Here o) → o.frozen ≡ false
    → AreKeysNamed below (slice_set slots n (Here (record o { triples = slice_set o.triples (2 * i + 1) (ValueAt i, v) }))) keys

-- a pair comes behind those of a hash, and its key is that of its key object
abbrev pub PairIsAdded : Type 0
PairIsAdded = (below : Below) (slots : List Slot) (keys : List (List HashKey)) (n : ℕ) (o : Object) (ks : List HashKey) (k : HashKey) (x v : Value) → AreKeysNamed below slots keys
    → slice_get slots n ≡ Some (Here o) → o.frozen ≡ false → o.kind ≡ hash → slice_get keys n ≡ Some ks → length o.triples ≡ 2 * length ks → value_key below slots x ≡ Some k
    → AreKeysNamed below (slice_set slots n (Here (record o { triples = o.triples ++ (KeyAt (length ks), x) ∷ (ValueAt (length ks), v) ∷ [] }))) (slice_set keys n (ks ++ k ∷ []))

-- the same, with a new frozen text as the key object
abbrev pub TextPairIsAdded : Type 0
TextPairIsAdded = (below : Below) (slots : List Slot) (keys : List (List HashKey)) (n : ℕ) (o : Object) (ks : List HashKey) (bytes : List ℕ) (v : Value) → AreKeysNamed below slots keys
    → length keys ≡ length slots → slice_get slots n ≡ Some (Here o) → o.frozen ≡ false → o.kind ≡ hash → slice_get keys n ≡ Some ks → length o.triples ≡ 2 * length ks
    → AreKeysNamed below (slice_set slots n (Here (record o { triples = o.triples ++ (KeyAt (length ks), At (Own (length slots))) ∷ (ValueAt (length ks), v) ∷ [] })) ++ Here (frozen_text bytes) ∷ [])
    (slice_set keys n (ks ++ TextKey bytes ∷ []) ++ [] ∷ [])

-- a pair is taken out of a hash
abbrev pub PairIsTaken : Type 0
PairIsTaken = (below : Below) (slots : List Slot) (keys : List (List HashKey)) (n place : ℕ) (o : Object) (ps : List (Value × Value)) (ks : List HashKey) → AreKeysNamed below slots keys
    → slice_get slots n ≡ Some (Here o) → o.frozen ≡ false → o.kind ≡ hash → slice_get keys n ≡ Some ks → o.triples ≡ paired_from 0 ps
    → AreKeysNamed below (slice_set slots n (Here (record o { triples = paired_from 0 (remove ps place) }))) (slice_set keys n (remove ks place))

-- an object is frozen
abbrev pub ObjectIsFrozen : Type 0
ObjectIsFrozen = (below : Below) (slots : List Slot) (keys : List (List HashKey)) (n : ℕ) (o : Object) → AreKeysNamed below slots keys
    → slice_get slots n ≡ Some (Here o) → AreKeysNamed below (slice_set slots n (Here (record o { frozen = true }))) keys

-- an object comes into the next slot
abbrev pub ObjectIsMade : Type 0
ObjectIsMade = (below : Below) (slots : List Slot) (keys : List (List HashKey)) (o : Object) (ks : List HashKey) → AreKeysNamed below slots keys
    → length keys ≡ length slots → AreNamed below slots ks o → AreKeysNamed below (slots ++ Here o ∷ []) (keys ++ ks ∷ [])

-- objects that lead to one another come behind the slots
abbrev pub ObjectsArrive : Type 0
ObjectsArrive = (below : Below) (slots : List Slot) (keys : List (List HashKey)) (os : List Object) (kss : List (List HashKey)) → AreKeysNamed below slots keys
    → length keys ≡ length slots → AreKeysNamed below (map Here os) kss → AreKeysNamed below (slots ++ map (here_behind (length slots)) os) (keys ++ kss)

-- a frozen object becomes a forward to a published one of its kind and bytes
abbrev pub ObjectIsForwarded : Type 0
ObjectIsForwarded = (below : Below) (slots : List Slot) (keys : List (List HashKey)) (n c p : ℕ) (o q : Object) → AreKeysNamed below slots keys
    → slice_get slots n ≡ Some (Here o) → published_at below c p ≡ Some q → q.kind ≡ o.kind → q.bytes ≡ o.bytes → q.frozen ≡ true
    → AreKeysNamed below (slice_set slots n (Led c p)) (slice_set keys n [])

-- an object that is no frozen text is moved away
abbrev pub ObjectIsEmptied : Type 0
ObjectIsEmptied = (below : Below) (slots : List Slot) (keys : List (List HashKey)) (n : ℕ) (o : Object) → AreKeysNamed below slots keys
    → slice_get slots n ≡ Some (Here o) → key_of_frozen (Some o) ≡ None → AreKeysNamed below (slice_set slots n (Here emptied)) (slice_set keys n [])

-- an object comes in the place of a shell
abbrev pub ObjectIsPutBack : Type 0
ObjectIsPutBack = (below : Below) (slots : List Slot) (keys : List (List HashKey)) (n : ℕ) (o : Object) (ks : List HashKey) → AreKeysNamed below slots keys
    → slice_get slots n ≡ Some (Here emptied) → AreNamed below (slice_set slots n (Here o)) ks o → AreKeysNamed below (slice_set slots n (Here o)) (slice_set keys n ks)

-- objects that match named ones, and have their keys
abbrev pub CopiesAreNamed : Type 0
CopiesAreNamed = (below : Below) (slots : List Slot) (keys : List (List HashKey)) (names : List ℕ) (os : List Object) (kss : List (List HashKey)) → AreKeysNamed below slots keys
    → ((n i : ℕ) (p : Object) → IsAt names n i → slice_get os i ≡ Some p → (o : Object) × (slice_get slots n ≡ Some (Here o)) × Matches (IsAt names) (resolve_object slots o) p)
    → ((i : ℕ) (p : Object) → slice_get os i ≡ Some p → (n : ℕ) × IsAt names n i)
    → ((n i : ℕ) → IsAt names n i → slice_get os i ≡ None → ⊥)
    → ((n i : ℕ) (ks : List HashKey) → IsAt names n i → slice_get kss i ≡ Some ks → slice_get keys n ≡ Some ks)
    → AreKeysNamed below (map Here os) kss
