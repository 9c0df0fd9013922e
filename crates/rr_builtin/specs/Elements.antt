-- The values that arrays and hashes lead to, in order.
use Rattle.std.specs.Prelude.{Option, Some, None, Result, Ok, Err, ℕ, zero, suc, List, [], ◌∷◌, length, map}
use Rattle.rr_space.specs.Graph.{Value}
use Rattle.rr_space.specs.Tables.{Table}
use Rattle.rr_space.specs.Labels.{triples_at}
use Rattle.rr_space.specs.declared.refer.Ref.{Ref}
use Rattle.rr_text.specs.Keys.{pairs_in}
use Rattle.rr_text.specs.Comparing.{values_in}

-- how many values an object leads to: two for each pair of a hash
abbrev pub count_at : Table → Ref → ℕ
count_at t v = length (triples_at t v)

-- the elements of an array
abbrev pub elements_of : Table → Ref → List Value
elements_of t v = values_in (triples_at t v)

-- the key object of a pair, or its value
abbrev pub half_of : ℕ → Value × Value → Value
half_of zero pair = pair.0
half_of (suc n) pair = pair.1

-- the key objects of a hash, and its values
abbrev pub names_of_hash : Table → Ref → List Value
names_of_hash t v = map (half_of 0) (pairs_in (triples_at t v))

abbrev pub values_of_hash : Table → Ref → List Value
values_of_hash t v = map (half_of 1) (pairs_in (triples_at t v))

abbrev pub first_as : {A : Type 0} → Value → Option A → Result (List A) Value → Result (List A) Value
first_as x (Some y) (Ok ys) = Ok (y ∷ ys)
first_as x (Some y) (Err z) = Err z
first_as x None rest = Err x

-- values as what each of them is, or the first of them that is none
abbrev pub each_as : {A : Type 0} → (Value → Option A) → List Value → Result (List A) Value
each_as f [] = Ok []
each_as f (x ∷ xs) = first_as x (f x) (each_as f xs)
