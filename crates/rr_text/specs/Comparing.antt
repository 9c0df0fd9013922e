-- Equality of values: containers are compared by what is in them, and two that are being compared already count as equal.
use Rattle.std.specs.Prelude.{ℕ, ◌+◌, ◌*◌, Bool, true, false, ◌&&◌, ◌||◌, nat_eq, List, [], ◌∷◌, map, length, slice_get, Option, Some, None, if◌then◌else◌}
use Rattle.std.specs.List.{zip}
use Rattle.std.specs.Option.{option_map}
use Rattle.std.specs.Str.{bytes_eq}
use Rattle.rr_space.specs.Graph.{Graph, Nil, Value, Plain, Label}
use Rattle.rr_space.specs.Tables.{HashKey}
use Rattle.rr_space.specs.declared.kind.Kind.{Kind}
use Rattle.rr_space.specs.declared.kind.Kind.TheVariants as kind
use Rattle.rr_text.specs.Walk.{Walked, Wrote, Differs, Deep, Circular, Shell, Look, Leaf, Branch, walk}
use Rattle.rr_text.specs.Same.{same_value, kind_in, bytes_in, triples_in}
use Rattle.rr_text.specs.Keys.{Reading, key_in, pairs_in, place_among}
use Rattle.rr_text.specs.declared.likeness.Likeness.{Likeness}
use Rattle.rr_text.specs.declared.likeness.Likeness.TheVariants.{Moved, Unlike, Texts, Arrays, Hashes}

abbrev pub text_likeness : Kind → Likeness
text_likeness kind.Text = Texts
text_likeness kind.Shell = Moved
text_likeness _ = Unlike

abbrev pub array_likeness : Kind → Likeness
array_likeness kind.Array = Arrays
array_likeness kind.Shell = Moved
array_likeness _ = Unlike

abbrev pub hash_likeness : Kind → Likeness
hash_likeness kind.Hash = Hashes
hash_likeness kind.Shell = Moved
hash_likeness _ = Unlike

abbrev pub other_likeness : Kind → Likeness
other_likeness kind.Shell = Moved
other_likeness _ = Unlike

-- by what two values of these kinds are compared that are not one
abbrev pub likeness : Kind → Kind → Likeness
likeness kind.Shell k = Moved
likeness kind.Text k = text_likeness k
likeness kind.Array k = array_likeness k
likeness kind.Hash k = hash_likeness k
likeness _ k = other_likeness k

abbrev pub Pair : Type 0
Pair = Value × Value

abbrev pub same_pair : Pair → Pair → Bool
same_pair p q = same_value p.0 q.0 && same_value p.1 q.1

abbrev pub decided : Bool → Walked
decided true = Wrote []
decided false = Differs

abbrev pub text_if : Likeness → List ℕ → List ℕ → Bool
text_if Texts a b = bytes_eq a b
text_if _ a b = false

abbrev pub value_or_none : Option (Label × Value) → Value
value_or_none (Some p) = p.1
value_or_none None = Plain Nil

-- the k-th of the values, or nil
abbrev pub value_in : List (Label × Value) → ℕ → Value
value_in ts k = value_or_none (slice_get ts k)

abbrev pub part_value : Label × Value → Value
part_value t = t.1

-- the values of an object, in order
abbrev pub values_in : List (Label × Value) → List Value
values_in ts = map part_value ts

-- the elements of two arrays side by side, where the arrays are as long
abbrev pub all_rows : List (Label × Value) → List (Label × Value) → Option (List Pair)
all_rows ss ts = if nat_eq (length ss) (length ts) then Some (zip (values_in ss) (values_in ts)) else None

-- all of a list, where each of it is there
abbrev pub all_there : {A : Type 0} → List (Option A) → Option (List A)
all_there [] = Some []
all_there (Some x ∷ xs) = option_map (λ ys. x ∷ ys) (all_there xs)
all_there (None ∷ xs) = None

-- the value of a pair beside that which the other hash has under its key object
abbrev pub beside : (Value → Option Value) → Value × Value → Option Pair
beside under p = option_map (λ w. (p.1, w)) (under p.0)

-- the values of these pairs, each beside the other hash's; none where that has none for one of them
abbrev pub matches : (Value → Option Value) → List (Value × Value) → Option (List Pair)
matches under ps = all_there (map (beside under) ps)

abbrev pub part_of : Pair → List ℕ × Pair
part_of p = ([], p)

-- two containers that have no such pairs differ
abbrev pub branched : Pair → Option (List Pair) → Look ℕ Pair Pair
branched p None = Leaf Differs
branched p (Some ps) = Branch p (Wrote []) [] (map part_of ps) []

-- an answer, or another one where it is that two values differ
abbrev pub unless_differs : Walked → Walked → Walked
unless_differs (Wrote s) w = Wrote s
unless_differs Differs w = w
unless_differs Deep w = Deep
unless_differs Circular w = Circular
unless_differs Shell w = Shell

-- the first of these answers that is not that two values differ
abbrev pub first_telling : List Walked → Walked
first_telling [] = Differs
first_telling (w ∷ ws) = unless_differs w (first_telling ws)

-- whether two values are one, or texts of the same bytes
unfoldable pub equal_in : Graph → Value → Value → Bool
equal_in g v w = same_value v w || text_if (likeness (kind_in g v) (kind_in g w)) (bytes_in g v) (bytes_in g w)

module _ (r : Reading) where
  -- the value of the pair of a hash that has the key
  abbrev pub value_with : Value → Option HashKey → Option Value
  value_with hash (Some key) = option_map (λ i. value_in (triples_in r.graph hash) (2 * i + 1)) (place_among key (r.keys hash))
  value_with hash None = None

  -- the value that a hash has under the key that a value is
  unfoldable pub value_under : Value → Value → Option Value
  value_under hash name = value_with hash (key_in r.graph name)

  -- the values of two hashes under the same keys, where they have as many pairs and each key of the one is a key of the other
  abbrev pub all_matches : Value → Value → Option (List Pair)
  all_matches v w =
      if nat_eq (length (triples_in r.graph v)) (length (triples_in r.graph w)) then matches (value_under w) (pairs_in (triples_in r.graph v)) else None

  abbrev pub look_like : Likeness → Pair → Look ℕ Pair Pair
  look_like Moved p = Leaf Shell
  look_like Unlike p = Leaf Differs
  look_like Texts p = Leaf (decided (bytes_eq (bytes_in r.graph p.0) (bytes_in r.graph p.1)))
  look_like Arrays p = branched p (all_rows (triples_in r.graph p.0) (triples_in r.graph p.1))
  look_like Hashes p = branched p (all_matches p.0 p.1)

  -- what is found at two values: one value is equal to itself at once, and what was moved away is equal to nothing else
  unfoldable pub look_pair : Pair → Look ℕ Pair Pair
  look_pair p = if same_value p.0 p.1 then Leaf (Wrote []) else look_like (likeness (kind_in r.graph p.0) (kind_in r.graph p.1)) p

  -- whether two values are equal, where so many containers may be begun inside one another
  unfoldable pub compared : ℕ → Value → Value → Walked
  compared levels v w = walk look_pair same_pair levels [] (v, w)

  -- whether an element is equal to a value; an array or a hash is compared by what is in it, and what was moved away with nothing
  abbrev pub item_compared : ℕ → Kind → Value → Value → Walked
  item_compared levels kind.Shell x v = Shell
  item_compared levels kind.Array x v = compared levels x v
  item_compared levels kind.Hash x v = compared levels x v
  item_compared levels _ x v = decided (equal_in r.graph x v)

  -- whether one of the elements of an array is equal to a value: the first that does not differ from it tells
  abbrev pub searched : ℕ → Value → List Value → Walked
  searched levels v xs = first_telling (map (λ x. item_compared levels (kind_in r.graph x) x v) xs)
