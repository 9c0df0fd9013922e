-- Sums of integers that are added one by one.
use Rattle.std.proofs.Common.{◌≡◌, ◌∙◌, ◌<◌, ℕ, suc, ℤ, pos, ◌+ℤ◌, List, [], ◌∷◌, ◌++◌, drop, length, Option, Some, None, Result, Ok, Err, refl, sym, ap, arith}
use Rattle.std.proofs.lemmas.Int.{ints}
use Rattle.rr_space.specs.Graph.{Value}
use Rattle.rr_space.specs.Tables.{Table}
use Rattle.rr_space.specs.Labels.{triples_at}
use Rattle.rr_space.specs.declared.refer.Ref.{Ref}
use Rattle.rr_builtin.specs.Acts.{element_at}
use Rattle.rr_builtin.specs.Elements.{elements_of, first_as}
use Rattle.rr_builtin.specs.Sums.{integer_of, integers_of, total, totalled}
use Rattle.rr_builtin.proofs.Listing.{listed, listed_front}

-- an integer before others that have a sum
first_sum : (x : Value) (o : Option ℤ) (z w : ℤ) (r : Result (List ℤ) Value) → o ≡ Some z → totalled r ≡ Ok w → totalled (first_as x o r) ≡ Ok (z +ℤ w)
first_sum x (Some y) z w (Ok zs) o e = let same : y ≡ z = cc in let is : total zs ≡ w = cc in ap (λ a. Ok (a +ℤ total zs)) same ∙ ap (λ a. Ok (z +ℤ a)) is
first_sum x (Some y) z w (Err v) o e = let no : ⊥ = cc in absurd no
first_sum x None z w r o e = let no : ⊥ = cc in absurd no

-- an integer before others of which one is none
first_other : (x : Value) (o : Option ℤ) (z : ℤ) (v : Value) (r : Result (List ℤ) Value) → o ≡ Some z → totalled r ≡ Err v → totalled (first_as x o r) ≡ Err v
first_other x (Some y) z v (Ok zs) o e = let no : ⊥ = cc in absurd no
first_other x (Some y) z v (Err u) o e = e
first_other x None z v r o e = let no : ⊥ = cc in absurd no

-- the parts of a sum
record IsSumOf (o : Option ℤ) (r : Result (List ℤ) Value) (w : ℤ) : Type 0 where
  first : ℤ
  rest : ℤ
  integer : o ≡ Some first
  sum : totalled r ≡ Ok rest
  whole : first +ℤ rest ≡ w

parts : (x : Value) (o : Option ℤ) (r : Result (List ℤ) Value) (w : ℤ) → totalled (first_as x o r) ≡ Ok w → IsSumOf o r w
parts x (Some z) (Ok zs) w e = record { first = z; rest = total zs; integer = refl; sum = refl; whole = (let is : z +ℤ total zs ≡ w = cc in is) }
parts x (Some z) (Err v) w e = let no : ⊥ = cc in absurd no
parts x None r w e = let no : ⊥ = cc in absurd no

pub sum_more : (xs : List Value) (x : Value) (z w : ℤ) → totalled (integers_of xs) ≡ Ok w → integer_of x ≡ Some z → totalled (integers_of (xs ++ x ∷ [])) ≡ Ok (w +ℤ z)
sum_more [] x z w e i =
    let none : pos 0 ≡ w = cc in
    first_sum x (integer_of x) z (pos 0) (Ok []) i refl ∙ ap (λ a. Ok a) (let turned : z +ℤ pos 0 ≡ w +ℤ z = omega (arith, ints, none) in turned)
sum_more (y ∷ xs) x z w e i =
    let p = parts y (integer_of y) (integers_of xs) w e in
    let whole : p.first +ℤ p.rest ≡ w = p.whole in
    first_sum y (integer_of y) p.first (p.rest +ℤ z) (integers_of (xs ++ x ∷ [])) p.integer (sum_more xs x z p.rest p.sum i)
    ∙ ap (λ a. Ok a) (let turned : p.first +ℤ (p.rest +ℤ z) ≡ w +ℤ z = omega (arith, ints, whole) in turned)

sum_stops : (xs : List Value) (x : Value) (rest : List Value) (w : ℤ) → totalled (integers_of xs) ≡ Ok w → integer_of x ≡ None → totalled (integers_of ((xs ++ x ∷ []) ++ rest)) ≡ Err x
sum_stops [] x rest w e i = ap (λ o. totalled (first_as x o (integers_of rest))) i
sum_stops (y ∷ xs) x rest w e i =
    let p = parts y (integer_of y) (integers_of xs) w e in
    first_other y (integer_of y) p.first x (integers_of ((xs ++ x ∷ []) ++ rest)) p.integer (sum_stops xs x rest p.rest p.sum i)

-- the first element that is no integer
pub sum_other : (t : Table) (v : Ref) (k : ℕ) (w : ℤ) → k < length (triples_at t v) → totalled (integers_of (listed t v k)) ≡ Ok w → integer_of (element_at t v k) ≡ None → totalled (integers_of (elements_of t v)) ≡ Err (element_at t v k)
sum_other t v k w lt e i =
    ap (λ xs. totalled (integers_of xs)) (sym (listed_front t v (suc k) (omega (arith, lt))))
    ∙ sum_stops (listed t v k) (element_at t v k) (drop (suc k) (elements_of t v)) w e i
