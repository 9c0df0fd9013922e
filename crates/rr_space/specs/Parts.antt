-- How references and the objects of clusters give values and objects, and which references lead somewhere.
use Rattle.std.specs.Prelude.{ℕ, ◌+◌, true, List, [], ◌∷◌, ◌++◌, map, Option, Some, None, Bool, false, ◌<◌}
use Rattle.rr_base.specs.declared.name.Sym.{Sym}
use Rattle.rr_base.specs.declared.name.TheConstants.ClassId.{ARRAY, HASH, STRING}
use Rattle.rr_space.specs.Graph.{Nil, Truth, Integer, SymbolNo, ClassNo, RactorNo, Value, Plain, At, Own, Published, Label, Place, Field, KeyAt, ValueAt, Message, Cause, Ractor, Object, Kind, text, array, hash, plain, exception}
use Rattle.rr_space.specs.Tables.{Below, below_hold}
use Rattle.rr_space.specs.declared.refer.Ref.{Ref}
use Rattle.rr_space.specs.declared.refer.Ref.TheVariants.{Nil as NilRef, False as FalseRef, True as TrueRef, Int, Symbol, Class, Ractor as RactorRef, Local, Shared}
use Rattle.rr_space.specs.declared.refer.Raised.{Raised}
use Rattle.rr_space.specs.declared.refer.Sealed.{Sealed}
use Rattle.rr_space.specs.declared.refer.Sealed.TheVariants.{Text as SealedText, Array as SealedArray, Hash as SealedHash, Object as SealedObject, Exception as SealedException}
use Rattle.rr_space.specs.Sound.{IsHold}

-- the value that a reference is
abbrev pub value_of : Ref → Value
value_of NilRef = Plain Nil
value_of FalseRef = Plain (Truth false)
value_of TrueRef = Plain (Truth true)
value_of (Int z) = Plain (Integer z)
value_of (Symbol s) = Plain (SymbolNo s.0)
value_of (Class c) = Plain (ClassNo c.0)
value_of (RactorRef r) = Plain (RactorNo r.0)
value_of (Local n) = At (Own n)
value_of (Shared p c) = At (Published c.now.number p)

-- the reference that is `true` or `false`
abbrev pub truth_ref : Bool → Ref
truth_ref true = TrueRef
truth_ref false = FalseRef

-- what an object leads to: references under labels, in order
abbrev pub Parts : Type 0
Parts = List (Label × Ref)

-- the elements of an array under their places, the first of them under k
abbrev pub places_from : ℕ → List Ref → Parts
places_from k [] = []
places_from k (r ∷ rs) = (Place k, r) ∷ places_from (k + 1) rs

-- the keys and values of a hash in turn, the first pair of them under k
abbrev pub pairs_from : ℕ → List (Ref × Ref) → Parts
pairs_from k [] = []
pairs_from k (p ∷ ps) = (KeyAt k, p.0) ∷ (ValueAt k, p.1) ∷ pairs_from (k + 1) ps

abbrev pub field_part : Sym × Ref → Label × Ref
field_part f = (Field f.0.0, f.1)

-- what an exception leads to: its message, its cause, its ractor, and the fields that the program set
abbrev pub raised_parts : Raised → Parts
raised_parts e = (Message, e.message) ∷ (Cause, e.cause) ∷ (Ractor, e.ractor) ∷ map field_part e.fields.items

abbrev pub value_triple : Label × Ref → Label × Value
value_triple t = (t.0, value_of t.1)

abbrev pub below_ref : Ref → Below
below_ref (Shared p c) = below_hold c.now
below_ref _ = []

abbrev pub below_parts : Parts → Below
below_parts [] = []
below_parts (t ∷ ts) = below_ref t.1 ++ below_parts ts

abbrev pub sealed_parts : Sealed → Parts
sealed_parts (SealedText bytes) = []
sealed_parts (SealedArray items) = places_from 0 items.items
sealed_parts (SealedHash pairs) = pairs_from 0 pairs.items
sealed_parts (SealedObject class fields) = map field_part fields.items
sealed_parts (SealedException class raised) = raised_parts raised.value

abbrev pub sealed_kind : Sealed → Kind
sealed_kind (SealedText bytes) = text
sealed_kind (SealedArray items) = array
sealed_kind (SealedHash pairs) = hash
sealed_kind (SealedObject class fields) = plain
sealed_kind (SealedException class raised) = exception

abbrev pub sealed_class : Sealed → ℕ
sealed_class (SealedText bytes) = STRING.0
sealed_class (SealedArray items) = ARRAY.0
sealed_class (SealedHash pairs) = HASH.0
sealed_class (SealedObject class fields) = class.0
sealed_class (SealedException class raised) = class.0

abbrev pub sealed_bytes : Sealed → List ℕ
sealed_bytes (SealedText bytes) = bytes.items
sealed_bytes _ = []

-- the object that a cluster has, frozen
abbrev pub sealed_object : Sealed → Object
sealed_object s = record { kind = sealed_kind s; class = sealed_class s; bytes = sealed_bytes s; frozen = true; triples = map value_triple (sealed_parts s) }

abbrev pub below_all : List Sealed → Below
below_all [] = []
below_all (s ∷ ss) = below_parts (sealed_parts s) ++ below_all ss

abbrev pub bytes_of : Option Object → List ℕ
bytes_of (Some o) = o.bytes
bytes_of None = []

-- there is an object, and it is frozen
abbrev pub is_frozen_object : Option Object → Bool
is_frozen_object (Some o) = o.frozen
is_frozen_object None = false

-- ---- References that lead somewhere.

-- the reference is an immediate, a slot below k, or a place that its cluster has
abbrev pub IsWithin : ℕ → Ref → Type 0
IsWithin k (Local n) = n < k
IsWithin k (Shared p c) = IsHold p c.now
IsWithin k _ = Unit {0}

abbrev pub AllWithin : ℕ → Parts → Type 0
AllWithin k [] = Unit {0}
AllWithin k (t ∷ ts) = IsWithin k t.1 × AllWithin k ts

-- each reference of the objects of a cluster is within
abbrev pub AllSealedWithin : ℕ → List Sealed → Type 0
AllSealedWithin k [] = Unit {0}
AllSealedWithin k (s ∷ ss) = AllWithin k (sealed_parts s) × AllSealedWithin k ss
