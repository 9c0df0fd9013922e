-- Keys of hashes, and which pair of a hash has one.
use Rattle.std.specs.Prelude.{ℕ, suc, Bool, false, List, [], ◌∷◌, map, slice_get, Option, Some, None, if◌then◌else◌}
use Rattle.std.specs.Option.{option_map}
use Rattle.std.specs.Str.{bytes_eq}
use Rattle.rr_space.specs.Graph.{Graph, Own, Published, Value, Plain, At, Label}
use Rattle.rr_space.specs.Tables.{Table, Below, HashKey, PlainKey, TextKey, graph_of, resolve}
use Rattle.rr_space.specs.Parts.{value_of}
use Rattle.rr_space.specs.Views.{keys_here}
use Rattle.rr_space.specs.Lookups.{key_of_frozen}
use Rattle.rr_space.specs.declared.refer.Ref.{Ref}
use Rattle.rr_text.specs.Same.{same_immediate, triples_in}

-- whether it is the key
abbrev pub same_key : HashKey → Option HashKey → Bool
same_key (PlainKey i) (Some (PlainKey j)) = same_immediate i j
same_key (TextKey a) (Some (TextKey b)) = bytes_eq a b
same_key _ _ = false

-- the first place at which the key is
abbrev pub place_among : HashKey → List (Option HashKey) → Option ℕ
place_among key [] = None
place_among key (k ∷ ks) = if same_key key k then Some 0 else option_map (λ i. suc i) (place_among key ks)

-- the key that a value of a graph is: an immediate, or the bytes of a frozen text
abbrev pub key_in : Graph → Value → Option HashKey
key_in g (Plain i) = Some (PlainKey i)
key_in g (At n) = key_of_frozen (g n)

-- the key objects and the values of a hash, pair by pair
abbrev pub pairs_in : List (Label × Value) → List (Value × Value)
pairs_in [] = []
pairs_in (key ∷ []) = []
pairs_in (key ∷ value ∷ ts) = (key.1, value.1) ∷ pairs_in ts

-- the keys that a table has for the hash at a value; none for a published one
abbrev pub own_keys : Table → Value → Option (List HashKey)
own_keys t (Plain i) = None
own_keys t (At (Own n)) = keys_here (slice_get t.slots n) (slice_get t.keys n)
own_keys t (At (Published c p)) = None

abbrev pub keys_or : Option (List HashKey) → List (Option HashKey) → List (Option HashKey)
keys_or (Some ks) names = map (λ k. Some k) ks
keys_or None names = names

-- the keys of the pairs of the hash at a value: of a hash of the space those that the table has for it, of a published one
-- those that its key objects are
unfoldable pub hash_keys : Below → Table → Value → List (Option HashKey)
hash_keys below t v = keys_or (own_keys t v) (map (λ p. key_in (graph_of t.slots below) p.0) (pairs_in (triples_in (graph_of t.slots below) v)))

-- the pair of a hash that has a key
unfoldable pub pair_with : Below → Table → Ref → HashKey → Option ℕ
pair_with below t v key = place_among key (hash_keys below t (resolve t.slots (value_of v)))

-- a graph, and the keys of the pairs of its hashes, in their order
pub record Reading : Type 0 where
  pub graph : Graph
  pub keys : Value → List (Option HashKey)

-- a table, read with these clusters
abbrev pub reading : Table → Below → Reading
reading t below = record { graph = graph_of t.slots below; keys = hash_keys below t }
