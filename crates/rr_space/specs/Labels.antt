-- Labels, and the values that stand under them in objects.
use Rattle.std.specs.Prelude.{◌≡◌, ◌+◌, ◌*◌, ◌<◌, slice_get, ℕ, ◌/◌, ◌%◌, nat_eq, cond, Bool, true, false, List, [], Option, Some, None}
use Rattle.rr_space.specs.Graph.{Label, Place, Field, KeyAt, ValueAt, Message, Cause, Ractor, Value, Object}
use Rattle.rr_space.specs.Tables.{Table}
use Rattle.rr_space.specs.Parts.{value_of}
use Rattle.rr_space.specs.Views.{object_at}
use Rattle.rr_space.specs.declared.refer.Ref.{Ref}
use Rattle.rr_space.specs.declared.label.Label.{Label as CodeLabel}
use Rattle.rr_space.specs.declared.label.Label.TheVariants.{Place as PlaceCode, Field as FieldCode, Key as KeyCode, Value as ValueCode, Message as MessageCode, Cause as CauseCode, Ractor as RactorCode}

abbrev pub label_of : CodeLabel → Label
label_of (PlaceCode k) = Place k
label_of (FieldCode name) = Field name.0
label_of (KeyCode k) = KeyAt k
label_of (ValueCode k) = ValueAt k
label_of MessageCode = Message
label_of CauseCode = Cause
label_of RactorCode = Ractor

-- the message, the cause or the ractor of an exception
abbrev pub is_raised_label : Label → Bool
is_raised_label Message = true
is_raised_label Cause = true
is_raised_label Ractor = true
is_raised_label (Place k) = false
is_raised_label (Field name) = false
is_raised_label (KeyAt k) = false
is_raised_label (ValueAt k) = false

-- where it stands among what an exception leads to
abbrev pub raised_place : Label → ℕ
raised_place Message = 0
raised_place Cause = 1
raised_place Ractor = 2
raised_place (Place k) = 0
raised_place (Field name) = 0
raised_place (KeyAt k) = 0
raised_place (ValueAt k) = 0

-- a reference under a label, and the value under it
abbrev pub labelled : CodeLabel × Ref → Label × Ref
labelled t = (label_of t.0, t.1)

abbrev pub labelled_value : CodeLabel × Ref → Label × Value
labelled_value t = (label_of t.0, value_of t.1)

abbrev pub triples_of : Option Object → List (Label × Value)
triples_of (Some o) = o.triples
triples_of None = []

-- what stands under the labels of the object that a reference leads to; nothing for an immediate
abbrev pub triples_at : Table → Ref → List (Label × Value)
triples_at t r = triples_of (object_at t r)

-- the first of the triples under the label has the value
abbrev pub IsFirstUnder : List (Label × Value) → Label → Value → Type 0
IsFirstUnder ts l x = (k : ℕ) × (slice_get ts k ≡ Some (l, x)) × ((j : ℕ) (y : Value) → j < k → slice_get ts j ≡ Some (l, y) → ⊥)

-- where the label may stand among what an object leads to
abbrev pub IsPlacedAt : Label → ℕ → Type 0
IsPlacedAt (Place k) j = j ≡ k
IsPlacedAt (Field name) j = Unit {0}
IsPlacedAt (KeyAt k) j = j ≡ 2 * k
IsPlacedAt (ValueAt k) j = j ≡ 2 * k + 1
IsPlacedAt Message j = j ≡ 0
IsPlacedAt Cause j = j ≡ 1
IsPlacedAt Ractor j = j ≡ 2

-- each label but those of fields has its place
abbrev pub AreLabelsPlaced : List (Label × Value) → Type 0
AreLabelsPlaced ts = (j : ℕ) (l : Label) (x : Value) → slice_get ts j ≡ Some (l, x) → IsPlacedAt l j

-- the key and the value of the i-th pair are there
abbrev pub IsPairThere : List (Label × Value) → ℕ → Type 0
IsPairThere ts i = (x y : Value) × (slice_get ts (2 * i) ≡ Some (KeyAt i, x)) × (slice_get ts (2 * i + 1) ≡ Some (ValueAt i, y))

-- the key or the value of a pair of a hash, whose keys and values are counted in turn
abbrev pub pair_half : ℕ → Option (Ref × Ref) → Option (Label × Ref)
pair_half k None = None
pair_half k (Some p) = cond (nat_eq (k % 2) 0) (Some (KeyAt (k / 2), p.0)) (Some (ValueAt (k / 2), p.1))
