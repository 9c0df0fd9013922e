-- Copies of objects and exceptions: what `dup` makes of them.
use Rattle.std.specs.Prelude.{◌≡◌, map, ℕ, false, [], List, ◌∷◌, ◌++◌, nat_eq, if◌then◌else◌, Option, Some, None}
use Rattle.std.specs.List.{list_any, IsDistinct}
use Rattle.rr_base.specs.declared.name.Sym.{Sym}
use Rattle.rr_space.specs.Graph.{Value, Object, Label, Field, Message, Cause, Ractor, plain, exception}
use Rattle.rr_space.specs.Tables.{Table, Below, HashKey, graph_of, resolve}
use Rattle.rr_space.specs.Kinds.{class_at}
use Rattle.rr_space.specs.Labels.{triples_at}
use Rattle.rr_space.specs.Lookups.{AreDistinct}
use Rattle.rr_space.specs.Views.{field_number, label_part, paired_from, key_of, entry_key, pair_values}
use Rattle.rr_space.specs.declared.node.Key.{Key}
use Rattle.rr_space.specs.declared.label.Label.{Label as CodeLabel}
use Rattle.rr_space.specs.declared.label.Label.TheVariants.{Field as FieldCode}
use Rattle.rr_space.specs.declared.refer.Ref.{Ref}
use Rattle.rr_text.specs.Keys.{same_key, key_in, pairs_in}
use Rattle.rr_builtin.specs.Acts.{element_at}
use Rattle.rr_builtin.specs.News.{empty_hash}

-- the fields whose names are not among these, of those of one name the first
abbrev pub fields_but : List ℕ → List (Label × Value) → List (Label × Value)
fields_but names [] = []
fields_but names ((Field name, x) ∷ ts) = if list_any (nat_eq name) names then fields_but names ts else (Field name, x) ∷ fields_but (name ∷ names) ts
fields_but names ((_, x) ∷ ts) = fields_but names ts

-- the fields of an object
abbrev pub fields_of : Table → Ref → List (Label × Value)
fields_of t v = fields_but [] (triples_at t v)

-- fields alone, no two of one name
pub record AreOwnFields (ts : List (Label × Value)) : Type 0 where
  pub names : List ℕ
  pub labels : map label_part ts ≡ map (λ n. Field n) names
  pub distinct : IsDistinct nat_eq names

-- message, cause and ractor, and then fields alone, no two of one name
pub record IsRaisedWhole (ts : List (Label × Value)) : Type 0 where
  pub message : Value
  pub cause : Value
  pub ractor : Value
  pub fields : List (Label × Value)
  pub all : ts ≡ (Message, message) ∷ (Cause, cause) ∷ (Ractor, ractor) ∷ fields
  pub own : AreOwnFields fields

-- an object of the same class with the same fields, not frozen
abbrev pub plain_copy : Table → Ref → Object
plain_copy t v = record { kind = plain; class = (class_at t v).0; bytes = []; frozen = false; triples = fields_of t v }

-- an exception of the same class with the same message, cause, ractor and fields, not frozen
abbrev pub exception_copy : Table → Ref → Object
exception_copy t v =
    record { kind = exception; class = (class_at t v).0; bytes = []; frozen = false; triples = (Message, element_at t v 0) ∷ (Cause, element_at t v 1) ∷ (Ractor, element_at t v 2) ∷ fields_of t v }

-- a field behind others, unless one of them has its name; what stands under another label is no field
abbrev pub with_field : List (Sym × Ref) → CodeLabel → Ref → List (Sym × Ref)
with_field fields (FieldCode name) r = if list_any (λ f. nat_eq name.0 (field_number f)) fields then fields else fields ++ (name, r) ∷ []
with_field fields _ r = fields

-- ---- Hashes.

-- the pairs that have a key, but not one of these keys; of those of one key the first
abbrev pub pairs_but : List HashKey → List (Option HashKey × (Value × Value)) → List (HashKey × (Value × Value))
pairs_but keys [] = []
pairs_but keys ((Some key, p) ∷ ps) = if list_any (λ k. same_key key (Some k)) keys then pairs_but keys ps else (key, p) ∷ pairs_but (keys ++ key ∷ []) ps
pairs_but keys ((None, p) ∷ ps) = pairs_but keys ps

-- the pairs of a hash, each with the key that its key object is
abbrev pub keyed_in : Below → Table → Ref → List (Option HashKey × (Value × Value))
keyed_in below t v = map (λ p. (key_in (graph_of t.slots below) (resolve t.slots p.0), p)) (pairs_in (triples_at t v))

-- the pairs of a hash by their keys
abbrev pub pairs_of : Below → Table → Ref → List (HashKey × (Value × Value))
pairs_of below t v = pairs_but [] (keyed_in below t v)

-- a hash with the same pairs, not frozen, and its keys
abbrev pub hash_copy : Below → Table → Ref → Object
hash_copy below t v = record empty_hash { triples = paired_from 0 (map (λ e. e.1) (pairs_of below t v)) }

abbrev pub hash_copy_keys : Below → Table → Ref → List HashKey
hash_copy_keys below t v = map (λ e. e.0) (pairs_of below t v)

-- pairs alone, each under the key that its key object is, no two of one key
pub record AreOwnPairs (below : Below) (t : Table) (v : Ref) : Type 0 where
  pub keys : List HashKey
  pub labels : triples_at t v ≡ paired_from 0 (pairs_in (triples_at t v))
  pub named : map (λ e. e.0) (keyed_in below t v) ≡ map (λ k. Some k) keys
  pub distinct : AreDistinct keys

-- a pair behind others, if it has a key that none of them has
abbrev pub with_entry : List (Key × (Ref × Ref)) → Option Key → Ref × Ref → List (Key × (Ref × Ref))
with_entry es (Some key) p = if list_any (λ e. same_key (key_of key) (Some (entry_key e))) es then es else es ++ (key, p) ∷ []
with_entry es None p = es

-- an entry as the pair of values that it is, by its key
abbrev pub entry_values : Key × (Ref × Ref) → HashKey × (Value × Value)
entry_values e = (key_of e.0, pair_values e.1)
