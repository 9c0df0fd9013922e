-- Which pair of a hash of a cluster is the first that has a key, and the indexes that say so.
use Rattle.std.specs.Prelude.{◌≡◌, ◌<◌, ◌⊎◌, ℕ, List, [], length, map, slice_get, Option, Some, None, MatchOption, cond}
use Rattle.std.specs.List.{AllZip}
use Rattle.std.specs.Map.{lookup}
use Rattle.rr_space.specs.Graph.{Object}
use Rattle.rr_space.specs.Tables.{HashKey}
use Rattle.rr_space.specs.Parts.{value_of, sealed_object}
use Rattle.rr_space.specs.Views.{key_of}
use Rattle.rr_space.specs.Lookups.{key_of_object, key_of_plain}
use Rattle.rr_space.specs.contracts.node.KeyPartialEq.TheImpl.{eq-value}
use Rattle.rr_space.specs.declared.node.Key.{Key}
use Rattle.rr_space.specs.declared.refer.Ref.{Ref}
use Rattle.rr_space.specs.declared.refer.Ref.TheVariants.{Local, Shared}
use Rattle.rr_space.specs.declared.refer.Sealed.{Sealed}
use Rattle.rr_space.specs.declared.refer.Sealed.TheVariants.{Hash}

-- the key that a reference in a cluster with these objects is
abbrev pub name_key : List Object → Ref → Option HashKey
name_key own (Local p) = key_of_object (slice_get own p)
name_key own (Shared p c) = key_of_object (slice_get c.now.own p)
name_key own r = key_of_plain (value_of r)

-- the i-th of the pairs has the key
abbrev pub IsNamed : List Object → List (Ref × Ref) → HashKey → ℕ → Type 0
IsNamed own ps key i = (p : Ref × Ref) × (slice_get ps i ≡ Some p) × (name_key own p.0 ≡ Some key)

-- the first of the first n pairs that has the key; none where none of them has it
abbrev pub IsFirstNamed : List Object → List (Ref × Ref) → ℕ → HashKey → Option ℕ → Type 0
IsFirstNamed own ps n key found = MatchOption found ((i : ℕ) → i < n → IsNamed own ps key i → ⊥) (λ i. (i < n) × IsNamed own ps key i × ((j : ℕ) → j < i → IsNamed own ps key j → ⊥))

-- the entries tell of each key which of the first n pairs is the first that has it
abbrev pub IsIndexOf : List Object → List (Ref × Ref) → ℕ → List (Key × ℕ) → Type 0
IsIndexOf own ps n es = (key : Key) → IsFirstNamed own ps n (key_of key) (lookup (eq-value.it key) es)

-- an entry for a key that has none; else what was there
abbrev pub IsKeptFirst : List (Key × ℕ) → List (Key × ℕ) → Key → ℕ → Type 0
IsKeptFirst old new key i = ((j : ℕ) × (lookup (eq-value.it key) old ≡ Some j) × (new ≡ old))
    ⊎ ((lookup (eq-value.it key) old ≡ None) × ((q : Key) → lookup (eq-value.it q) new ≡ cond (eq-value.it key q) (Some i) (lookup (eq-value.it q) old)))

-- the index of an object of a cluster, where it has one, tells of all pairs of the hash that the object is
abbrev pub IsIndexed : {B : Type 0} → (B → List (Key × ℕ)) → List Object → Sealed → Option B → Type 0
IsIndexed entries own (Hash ps) (Some index) = IsIndexOf own ps.items (length ps.items) (entries index)
IsIndexed entries own _ _ = Unit {0}

-- an index or none for each object, or none at all
abbrev pub AreIndexed : {B : Type 0} → (B → List (Key × ℕ)) → List Sealed → List (Option B) → Type 0
AreIndexed entries nodes indexes = (indexes ≡ []) ⊎ AllZip (IsIndexed entries (map sealed_object nodes)) nodes indexes
