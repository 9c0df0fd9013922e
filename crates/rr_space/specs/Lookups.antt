-- Keys of hashes, and which pair a key has.
use Rattle.std.specs.Prelude.{◌≡◌, ℕ, Bool, true, false, List, [], Option, Some, None, slice_get, if◌then◌else◌, ◌&&◌, not, ◌<◌, Contains, MatchOption}
use Rattle.rr_base.specs.declared.name.TheConstants.ClassId.{STRING}
use Rattle.rr_space.specs.Graph.{Object, Kind, text, Own, Published, Value, Plain, At, Label, KeyAt}
use Rattle.rr_space.specs.Tables.{Table, Slot, Here, Led, Below, Whole, HashKey, PlainKey, TextKey, below_hold, outer_objects, published_at, numbered}
use Rattle.rr_space.specs.declared.refer.Ref.{Ref}
use Rattle.rr_space.specs.declared.refer.Ref.TheVariants.{Local, Shared}
use Rattle.rr_space.specs.Parts.{value_of}
use Rattle.rr_space.specs.Views.{object_at}

-- the object that a text of these bytes is, not frozen
abbrev pub text_object : List ℕ → Object
text_object bytes = record { kind = text; class = STRING.0; bytes = bytes; frozen = false; triples = [] }

-- the same, frozen
abbrev pub frozen_text : List ℕ → Object
frozen_text bytes = record (text_object bytes) { frozen = true }

abbrev pub is_text : Kind → Bool
is_text text = true
is_text _ = false

abbrev pub open_text_in : Option Slot → Option (List ℕ)
open_text_in (Some (Here o)) = if is_text o.kind && not o.frozen then Some o.bytes else None
open_text_in (Some (Led c p)) = None
open_text_in None = None

-- the bytes of the text in the slot that the reference names, where one is there and is not frozen
abbrev pub open_text_at : Table → Ref → Option (List ℕ)
open_text_at t (Local n) = open_text_in (slice_get t.slots n)
open_text_at t _ = None

-- the reference is the slot of a text of these bytes, which is not frozen and leads to nothing
abbrev pub IsTextIn : Table → Ref → List ℕ → Type 0
IsTextIn t (Local n) bytes = slice_get t.slots n ≡ Some (Here (text_object bytes))
IsTextIn t _ bytes = ⊥

-- ---- Which pair of a published hash a key has.

-- the key that an object is: the bytes of a text
abbrev pub key_of_object : Option Object → Option HashKey
key_of_object (Some o) = if is_text o.kind then Some (TextKey o.bytes) else None
key_of_object None = None

-- the key that an immediate is
abbrev pub key_of_plain : Value → Option HashKey
key_of_plain (Plain i) = Some (PlainKey i)
key_of_plain (At n) = None

-- the key that a value of a published object is: an immediate, or the bytes of a published text
abbrev pub key_of_value : Below → Value → Option HashKey
key_of_value below (Plain i) = Some (PlainKey i)
key_of_value below (At (Own n)) = None
key_of_value below (At (Published c p)) = key_of_object (published_at below c p)

-- the key that an object of a space is: the bytes of a frozen text
abbrev pub key_of_frozen : Option Object → Option HashKey
key_of_frozen (Some o) = if is_text o.kind && o.frozen then Some (TextKey o.bytes) else None
key_of_frozen None = None

-- the key that a reference is: an immediate, or the bytes of the frozen text that it leads to
abbrev pub key_at : Table → Ref → Option HashKey
key_at t (Local n) = key_of_frozen (object_at t (Local n))
key_at t (Shared p c) = key_of_frozen (object_at t (Shared p c))
key_at t r = key_of_plain (value_of r)

-- no element is there twice
abbrev pub AreDistinct : {A : Type 0} → List A → Type 0
AreDistinct {A} xs = (i j : ℕ) (x : A) → slice_get xs i ≡ Some x → slice_get xs j ≡ Some x → i ≡ j

-- each number names one cluster of the list
abbrev pub IsOneEach : Below → Type 0
IsOneEach below = (c : ℕ) (os ps : List Object) → Contains below (c, os) → Contains below (c, ps) → os ≡ ps

-- the i-th pair has the key
abbrev pub HasKeyAt : Below → List (Label × Value) → HashKey → ℕ → Type 0
HasKeyAt below ts key i = (x : Value) × Contains ts (KeyAt i, x) × (key_of_value below x ≡ Some key)

-- the first pair that has the key; none where no pair has it
abbrev pub IsPairOf : Below → List (Label × Value) → HashKey → Option ℕ → Type 0
IsPairOf below ts key found = MatchOption found ((i : ℕ) → HasKeyAt below ts key i → ⊥) (λ i. HasKeyAt below ts key i × ((j : ℕ) → j < i → HasKeyAt below ts key j → ⊥))

abbrev pub led_object : Option Slot → Option Below → Option Object
led_object (Some (Led c p)) (Some below) = published_at below c p
led_object (Some (Led c p)) None = None
led_object (Some (Here o)) below = None
led_object None below = None

-- the published object that a reference leads to
abbrev pub published_object : Table → Ref → Option Object
published_object t (Local n) = led_object (slice_get t.slots n) (slice_get t.below n)
published_object t (Shared p c) = slice_get (outer_objects c.now) p
published_object t _ = None

abbrev pub below_or_none : Option Below → Below
below_or_none (Some below) = below
below_or_none None = []

-- the clusters that the object that a reference leads to leads to
abbrev pub below_of : Table → Ref → Below
below_of t (Local n) = below_or_none (slice_get t.below n)
below_of t (Shared p c) = below_hold c.now
below_of t _ = []

-- the i-th of these pairs of a cluster has the key, seen from outside
abbrev pub IsKeyOfPair : Whole → List (Ref × Ref) → HashKey → ℕ → Type 0
IsKeyOfPair w ps key i = (p : Ref × Ref) × (slice_get ps i ≡ Some p) × (key_of_value (below_hold w) (numbered w.number (value_of p.0)) ≡ Some key)
