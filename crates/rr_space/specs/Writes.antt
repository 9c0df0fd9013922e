-- What a write makes of the object of a slot, where it lies.
use Rattle.std.specs.Prelude.{ℕ, Bool, List, [], ◌∷◌, ◌++◌, ◌≡◌, ◌⊎◌, ◌<◌, ◌+◌, ◌*◌, length, map, slice_get, slice_set, Option, Some, Contains, IfSome, IfNone, remove, Result, IsOk, IfOk, IfErr}
use Rattle.rr_space.specs.Graph.{Object, Place, Field, KeyAt, ValueAt, array, hash, text, plain, exception}
use Rattle.rr_space.specs.Tables.{Below, HashKey}
use Rattle.rr_space.specs.Parts.{below_ref}
use Rattle.rr_space.specs.Views.{node_kind, node_bytes, node_keys, node_parts, node_items, below_node, IsWithin, IsNodeWithin, IsBareHeadKept, IsAllButBytesKept, IsFirstAt, ref_label}
use Rattle.rr_space.specs.declared.refer.Ref.{Ref}
use Rattle.rr_space.specs.declared.node.Node.{Node}
use Rattle.rr_space.specs.declared.node.Held.{Held}
use Rattle.rr_space.specs.declared.node.Held.TheVariants.{Whole}

-- an object has become another, as R tells, and is frozen if it was
abbrev pub IsHeldRewritten : (Node → Node → Type 0) → Held → Held → Type 0
IsHeldRewritten R old new = (f : Bool) (a : Node) → old ≡ Whole f a → (b : Node) × (new ≡ Whole f b) × R a b

-- the same of the object in the slot n, with all others as they were
abbrev pub IsSlotRewritten : (Node → Node → Type 0) → ℕ → List Held → List Held → Type 0
IsSlotRewritten R n old new = (f : Bool) (a : Node) → slice_get old n ≡ Some (Whole f a) → (b : Node) × (new ≡ slice_set old n (Whole f b)) × R a b

-- kind, class and bytes are the same; what the references lead to they led to before, or it came; they are within if they were and what came is inside
pub record IsGrownBy (inside : ℕ → Type 0) (came : Below) (old new : Node) : Type 0 where
  pub head : IsBareHeadKept old new
  pub within : (k : ℕ) → IsNodeWithin k old → inside k → IsNodeWithin k new
  pub below : (e : ℕ × List Object) → Contains (below_node new) e → Contains (below_node old) e ⊎ Contains came e

-- the same where one value came, and the keys are the same too
pub record IsGrownByOne (value : Ref) (old new : Node) : Type 0 where
  pub grown : IsGrownBy (λ k. IsWithin k value) (below_ref value) old new
  pub keys : node_keys new ≡ node_keys old

-- the first field of that name has the value, or a new one behind the others; after an error the references are as they were
pub record IsFieldWritten {A E : Type 0} (old new : Node) (name : ℕ) (value : Ref) (r : Result A E) : Type 0 where
  pub present : (i : ℕ) → IsFirstAt (map ref_label (node_parts old)) (Field name) i → IsOk r × ((node_kind old ≡ plain) ⊎ (node_kind old ≡ exception) → node_parts new ≡ slice_set (node_parts old) i (Field name, value))
  pub absent : (node_kind old ≡ plain) ⊎ (node_kind old ≡ exception) → (Contains (map ref_label (node_parts old)) (Field name) → ⊥) → IfOk r (λ _. node_parts new ≡ node_parts old ++ (Field name, value) ∷ [])
  pub refused : IfErr r (λ _. node_parts new ≡ node_parts old)
  pub one : IsGrownByOne value old new

-- the value stands in the place of an element of an array, if it has that element
pub record IsElementWritten (old new : Node) (place : ℕ) (value : Ref) : Type 0 where
  pub written : node_kind old ≡ array → place < length (node_parts old) → node_parts new ≡ slice_set (node_parts old) place (Place place, value)
  pub one : IsGrownByOne value old new

-- the value stands behind the elements of an array; after an error the references are as they were
pub record IsElementPushed {A E : Type 0} (old new : Node) (value : Ref) (r : Result A E) : Type 0 where
  pub pushed : node_kind old ≡ array → IfOk r (λ _. node_parts new ≡ node_parts old ++ (Place (length (node_parts old)), value) ∷ [])
  pub refused : IfErr r (λ _. node_parts new ≡ node_parts old)
  pub one : IsGrownByOne value old new

-- an element is taken out of an array and given, if the array has it, and later ones close up
pub record IsElementTaken (old new : Node) (place : ℕ) (r : Option Ref) : Type 0 where
  pub taken : node_kind old ≡ array → r ≡ slice_get (node_items old) place
  pub items : node_kind old ≡ array → node_items new ≡ remove (node_items old) place
  pub none : IfNone r (node_parts new ≡ node_parts old)
  pub within_taken : (k : ℕ) → IsNodeWithin k old → IfSome r (IsWithin k)
  pub below_taken : IfSome r (λ v. (e : ℕ × List Object) → Contains (below_ref v) e → Contains (below_node old) e)
  pub keys : node_keys new ≡ node_keys old
  pub grown : IsGrownBy (λ k. Unit {0}) [] old new

-- a text has these bytes
pub record IsTextWritten (old new : Node) (bytes : List ℕ) : Type 0 where
  pub written : node_kind old ≡ text → node_bytes new ≡ bytes
  pub rest : IsAllButBytesKept old new

-- the bytes stand behind those of a text; after an error it has the bytes that it had
pub record IsTextAppended {A E : Type 0} (old new : Node) (bytes : List ℕ) (r : Result A E) : Type 0 where
  pub appended : node_kind old ≡ text → IfOk r (λ _. node_bytes new ≡ node_bytes old ++ bytes)
  pub refused : IfErr r (λ _. node_bytes new ≡ node_bytes old)
  pub rest : IsAllButBytesKept old new

-- the pair of the key has the value, or a new pair stands behind the others; after an error references and keys are as they were
pub record IsPairWritten {A E : Type 0} (old new : Node) (key : HashKey) (name value : Ref) (r : Result A E) : Type 0 where
  pub present : (i : ℕ) → node_kind old ≡ hash → IsFirstAt (node_keys old) key i → IsOk r × (node_parts new ≡ slice_set (node_parts old) (2 * i + 1) (ValueAt i, value)) × (node_keys new ≡ node_keys old)
  pub absent : node_kind old ≡ hash → (Contains (node_keys old) key → ⊥)
      → IfOk r (λ _. (node_parts new ≡ node_parts old ++ (KeyAt (length (node_keys old)), name) ∷ (ValueAt (length (node_keys old)), value) ∷ []) × (node_keys new ≡ node_keys old ++ key ∷ []))
  pub refused : IfErr r (λ _. (node_parts new ≡ node_parts old) × (node_keys new ≡ node_keys old))
  pub grown : IsGrownBy (λ k. IsWithin k name × IsWithin k value) (below_ref name ++ below_ref value) old new
