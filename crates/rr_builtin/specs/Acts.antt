-- Acts on the objects of a space, and what they give and leave.
use Rattle.std.specs.Prelude.{◌≡◌, ◌<◌, ◌≤◌, ◌⊎◌, IfOk, IfErr, ℕ, List, [], ◌∷◌, ◌++◌, length, remove, Result, Ok, Err, Option, Some, None, slice_get, slice_set, if◌then◌else◌, Contains, true, false, zero, suc, nat_lt, ◌-◌, ◌+◌, ◌*◌}
use Rattle.rr_base.specs.declared.fault.Fault.{Fault}
use Rattle.rr_base.specs.declared.fault.Fault.TheVariants.{Memory, Limit}
use Rattle.rr_base.specs.declared.limits.LimitKind.TheVariants.{Slots}
use Rattle.rr_base.specs.declared.name.TheConstants.ClassId.{ARRAY}
use Rattle.rr_space.specs.Graph.{Value, Plain, At, Own, Nil, Place, KeyAt, ValueAt, Object, array}
use Rattle.rr_space.specs.Tables.{Table, Slot, Here, Led, Below, HashKey, TextKey, IsRestKept, below_hold}
use Rattle.rr_space.specs.Lookups.{text_object, frozen_text}
use Rattle.rr_space.specs.Parts.{value_of, IsWithin}
use Rattle.rr_space.specs.Views.{is_shell, placed_from, paired_from, keys_at}
use Rattle.rr_space.specs.Labels.{triples_at}
use Rattle.rr_space.specs.declared.refer.Ref.{Ref}
use Rattle.rr_space.specs.declared.refer.Ref.TheVariants.{Local, Shared}
use Rattle.rr_text.specs.Reads.{IsReadWith}
use Rattle.rr_text.specs.Keys.{pairs_in}
use Rattle.rr_text.specs.Comparing.{value_in, values_in}
use Rattle.rr_builtin.specs.declared.problem.Problem.{Problem}
use Rattle.rr_builtin.specs.declared.built.Built.{Built}
use Rattle.rr_builtin.specs.declared.built.Built.TheVariants as built

-- what a call comes to
pub data Outcome : Type 0 where
  Gives : (value : Value) → Outcome
  Raises : (problem : Problem) → Outcome
  Lacks : Outcome

-- what is done with the receiver of a call
pub data Act : Type 0 where
  -- nothing is changed
  Answers : (outcome : Outcome) → Act
  -- a new text
  Makes : (bytes : List ℕ) → Act
  -- the receiver is frozen, and given
  Freezes : Act
  -- bytes come behind those of the receiver, which is given
  Appends : (bytes : List ℕ) → Act
  -- a value comes behind the elements of the receiver, which is given
  Pushes : (value : Value) → Act
  -- an element is taken out of the receiver, and given
  Takes : (place : ℕ) → Act
  -- a new array
  MakesArray : (values : List Value) → Act
  -- a value is put under a place of the receiver, and given
  Puts : (place : ℕ) (value : Value) → Act
  -- a pair of the receiver gets another value, which is given
  SetsValue : (pair : ℕ) (value : Value) → Act
  -- a pair comes behind those of the receiver, and its value is given
  AddsPair : (name : Value) (key : HashKey) (value : Value) → Act
  -- the same, with a new frozen text as the key object
  AddsText : (bytes : List ℕ) (value : Value) → Act
  -- a pair is taken out of the receiver, and its value given
  TakesPair : (pair : ℕ) → Act
  -- a new object; of a hash with these keys
  MakesObject : (object : Object) (keys : List HashKey) → Act

abbrev pub outcome_of : Built → Outcome
outcome_of (built.Value r) = Gives (value_of r)
outcome_of (built.Raised p) = Raises p
outcome_of built.Missing = Lacks

-- ---- What an act leaves.

-- a new text gets the next slot
abbrev pub with_text : List ℕ → Table → Table
with_text bytes t = record t { slots = t.slots ++ Here (text_object bytes) ∷ []; below = t.below ++ [] ∷ []; keys = t.keys ++ [] ∷ [] }

-- an array of these elements, not frozen
abbrev pub array_object : List Value → Object
array_object values = record { kind = array; class = ARRAY.0; bytes = []; frozen = false; triples = placed_from 0 values }

-- a new array gets the next slot
abbrev pub with_array : List Value → Table → Table
with_array values t = record t { slots = t.slots ++ Here (array_object values) ∷ []; below = t.below ++ [] ∷ []; keys = t.keys ++ [] ∷ [] }

-- a new object gets the next slot
abbrev pub with_object : Object → List HashKey → Table → Table
with_object o keys t = record t { slots = t.slots ++ Here o ∷ []; below = t.below ++ [] ∷ []; keys = t.keys ++ keys ∷ [] }

abbrev pub changed_slot : (Object → Object) → List Slot → ℕ → Option Slot → List Slot
changed_slot f slots n (Some (Here o)) = slice_set slots n (Here (f o))
changed_slot f slots n (Some (Led c p)) = slots
changed_slot f slots n None = slots

-- the object of the slot that a reference names is another one
abbrev pub changed : (Object → Object) → Ref → Table → Table
changed f (Local n) t = record t { slots = changed_slot f t.slots n (slice_get t.slots n) }
changed f _ t = t

abbrev pub froze_slot : List Slot → ℕ → Option Slot → List Slot
froze_slot slots n (Some (Here o)) = if is_shell o.kind then slots else slice_set slots n (Here (record o { frozen = true }))
froze_slot slots n (Some (Led c p)) = slots
froze_slot slots n None = slots

-- the object of a slot is frozen; what is published is, and an immediate stays
abbrev pub froze : Ref → Table → Table
froze (Local n) t = record t { slots = froze_slot t.slots n (slice_get t.slots n) }
froze _ t = t

abbrev pub with_bytes : List ℕ → Object → Object
with_bytes bytes o = record o { bytes = o.bytes ++ bytes }

abbrev pub with_element : Value → Object → Object
with_element x o = record o { triples = o.triples ++ (Place (length o.triples), x) ∷ [] }

abbrev pub nils : ℕ → List Value
nils zero = []
nils (suc n) = Plain Nil ∷ nils n

-- a value under a place of an array: in the place of what is there, or behind the elements and as many nils as lie between
abbrev pub with_put : ℕ → Value → Object → Object
with_put k x o =
    record o { triples = if nat_lt k (length o.triples) then slice_set o.triples k (Place k, x) else o.triples ++ placed_from (length o.triples) (nils (k - length o.triples) ++ x ∷ []) }

-- a pair of a hash with another value
abbrev pub with_value : ℕ → Value → Object → Object
with_value i x o = record o { triples = slice_set o.triples (2 * i + 1) (ValueAt i, x) }

-- one more pair, behind so many
abbrev pub with_pair : ℕ → Value → Value → Object → Object
with_pair k name x o = record o { triples = o.triples ++ (KeyAt k, name) ∷ (ValueAt k, x) ∷ [] }

abbrev pub keys_with : HashKey → List (List HashKey) → ℕ → Option (List HashKey) → List (List HashKey)
keys_with key keys n (Some ks) = slice_set keys n (ks ++ key ∷ [])
keys_with key keys n None = keys

-- a key behind those of the slot that a reference names
abbrev pub with_key : HashKey → Ref → Table → Table
with_key key (Local n) t = record t { keys = keys_with key t.keys n (slice_get t.keys n) }
with_key key _ t = t

abbrev pub count_keys : Option (List HashKey) → ℕ
count_keys (Some ks) = length ks
count_keys None = 0

-- how many keys a hash of the space has
abbrev pub key_count : Table → Ref → ℕ
key_count t v = count_keys (keys_at t v)

-- a pair behind those of a hash
abbrev pub added : Value → HashKey → Value → Ref → Table → Table
added name key x v t = with_key key v (changed (with_pair (key_count t v) name x) v t)

-- a frozen text gets the next slot
abbrev pub with_frozen : List ℕ → Table → Table
with_frozen bytes t = record t { slots = t.slots ++ Here (frozen_text bytes) ∷ []; below = t.below ++ [] ∷ []; keys = t.keys ++ [] ∷ [] }

-- a hash without a pair: later ones close up
abbrev pub without_pair : ℕ → Object → Object
without_pair i o = record o { triples = paired_from 0 (remove (pairs_in o.triples) i) }

abbrev pub keys_without : ℕ → List (List HashKey) → ℕ → Option (List HashKey) → List (List HashKey)
keys_without i keys n (Some ks) = slice_set keys n (remove ks i)
keys_without i keys n None = keys

-- the slot that a reference names without one of its keys
abbrev pub without_key : ℕ → Ref → Table → Table
without_key i (Local n) t = record t { keys = keys_without i t.keys n (slice_get t.keys n) }
without_key i _ t = t

abbrev pub without_element : ℕ → Object → Object
without_element k o = record o { triples = placed_from 0 (remove (values_in o.triples) k) }

-- the k-th value that the object of a reference leads to, or nil
abbrev pub element_at : Table → Ref → ℕ → Value
element_at t v k = value_in (triples_at t v) k

-- what an act on the receiver gives and leaves
abbrev pub performed : Act → Ref → Table → Outcome × Table
performed (Answers o) v t = (o, t)
performed (Makes bytes) v t = (Gives (At (Own (length t.slots))), with_text bytes t)
performed Freezes v t = (Gives (value_of v), froze v t)
performed (Appends bytes) v t = (Gives (value_of v), changed (with_bytes bytes) v t)
performed (Pushes x) v t = (Gives (value_of v), changed (with_element x) v t)
performed (MakesArray values) v t = (Gives (At (Own (length t.slots))), with_array values t)
performed (Puts k x) v t = (Gives x, changed (with_put k x) v t)
performed (SetsValue i x) v t = (Gives x, changed (with_value i x) v t)
performed (AddsPair name key x) v t = (Gives x, added name key x v t)
performed (AddsText bytes x) v t = (Gives x, with_frozen bytes (added (At (Own (length t.slots))) (TextKey bytes) x v t))
performed (Takes k) v t = (Gives (element_at t v k), changed (without_element k) v t)
performed (MakesObject o keys) v t = (Gives (At (Own (length t.slots))), with_object o keys t)
performed (TakesPair i) v t = (Gives (element_at t v (2 * i + 1)), without_key i v (changed (without_pair i) v t))

-- ---- When a call has done an act.

-- each cluster that a reference leads to is one of these; an immediate and a slot lead to none
abbrev pub IsRefAmong : Below → Ref → Type 0
IsRefAmong below (Shared p c) = (e : ℕ × List Object) → Contains (below_hold c.now) e → Contains below e
IsRefAmong below _ = Unit {0}

abbrev pub IsBuiltWithin : ℕ → Built → Type 0
IsBuiltWithin k (built.Value r) = IsWithin k r
IsBuiltWithin k (built.Raised p) = Unit {0}
IsBuiltWithin k built.Missing = Unit {0}

abbrev pub IsBuiltAmong : Below → Built → Type 0
IsBuiltAmong below (built.Value r) = IsRefAmong below r
IsBuiltAmong below (built.Raised p) = Unit {0}
IsBuiltAmong below built.Missing = Unit {0}

-- The outcome is given. Slots and keys are those that the act leaves, and limit, owner and numbering stay. The table is read
-- with the clusters that it was read with, and what is given lies within it and leads to these clusters.
pub record IsDone (below : Below) (done : Outcome × Table) (old new : Table) (b : Built) : Type 0 where
  pub outcome : outcome_of b ≡ done.0
  pub slots : new.slots ≡ done.1.slots
  pub keys : new.keys ≡ done.1.keys
  pub rest : IsRestKept old new
  pub read : IsReadWith new below
  pub within : IsBuiltWithin (length new.slots) b
  pub among : IsBuiltAmong below b

-- a growth was refused: there was no memory, or no room for so many objects
abbrev pub IsRefusal : Fault → ℕ → ℕ → Type 0
IsRefusal f limit objects = (f ≡ Memory) ⊎ ((f ≡ Limit Slots) × (limit < objects))

-- the act was done; a refused one did nothing, and is refused for want of memory or because its objects pass the limit
abbrev pub Acts : Below → (Table → Outcome × Table) → Table → Table → Result Built Fault → Type 0
Acts below act old new (Ok b) = IsDone below (act old) old new b
Acts below act old new (Err f) = (new ≡ old) × IsRefusal f old.limit (length (act old).1.slots)

-- ---- What holds of each space, whatever clusters it is read with.

-- limit, owner and numbering stay, no slot goes away, what is given lies within the space, and a refusal leaves all as it was
pub record IsServed (old new : Table) (r : Result Built Fault) : Type 0 where
  pub rest : IsRestKept old new
  pub grown : length old.slots ≤ length new.slots
  pub within : IfOk r (IsBuiltWithin (length new.slots))
  pub refused : IfErr r (λ (f : Fault). (new ≡ old) × ((f ≡ Memory) ⊎ (f ≡ Limit Slots)))
