-- Elements that are gathered as what each of them is.
use Rattle.std.proofs.Common.{◌≡◌, ◌∙◌, ◌<◌, ℕ, suc, List, [], ◌∷◌, ◌++◌, drop, length, Option, Some, None, Result, Ok, Err, refl, sym, ap, arith}
use Rattle.rr_space.specs.Graph.{Value}
use Rattle.rr_space.specs.Tables.{Table}
use Rattle.rr_space.specs.Labels.{triples_at}
use Rattle.rr_space.specs.declared.refer.Ref.{Ref}
use Rattle.rr_builtin.specs.Acts.{element_at}
use Rattle.rr_builtin.specs.Elements.{elements_of, first_as, each_as}
use Rattle.rr_builtin.proofs.Listing.{listed, listed_front}

module _ {A : Type 0} (f : Value → Option A) where
  first_ok : (x : Value) (o : Option A) (y : A) (ys : List A) (r : Result (List A) Value) → o ≡ Some y → r ≡ Ok ys → first_as x o r ≡ Ok (y ∷ ys)
  first_ok x o y ys r p q = ap (λ a. first_as x a r) p ∙ ap (λ a. first_as x (Some y) a) q

  first_err : (x : Value) (o : Option A) (y : A) (v : Value) (r : Result (List A) Value) → o ≡ Some y → r ≡ Err v → first_as x o r ≡ Err v
  first_err x o y v r p q = ap (λ a. first_as x a r) p ∙ ap (λ a. first_as x (Some y) a) q

  -- what a first value and the others are
  record IsFirstOf (o : Option A) (r : Result (List A) Value) (zs : List A) : Type 0 where
    first : A
    rest : List A
    here : o ≡ Some first
    others : r ≡ Ok rest
    all : first ∷ rest ≡ zs

  parts : (x : Value) (o : Option A) (r : Result (List A) Value) (zs : List A) → first_as x o r ≡ Ok zs → IsFirstOf o r zs
  parts x (Some y) (Ok ys) zs e = record { first = y; rest = ys; here = refl; others = refl; all = (let is : y ∷ ys ≡ zs = cc in is) }
  parts x (Some y) (Err v) zs e = let no : ⊥ = cc in absurd no
  parts x None r zs e = let no : ⊥ = cc in absurd no

  pub each_more : (xs : List Value) (x : Value) (y : A) (ys : List A) → each_as f xs ≡ Ok ys → f x ≡ Some y → each_as f (xs ++ x ∷ []) ≡ Ok (ys ++ y ∷ [])
  each_more [] x y ys e i = let none : [] ≡ ys = cc in first_ok x (f x) y [] (Ok []) i refl ∙ ap (λ zs. Ok (zs ++ y ∷ [])) none
  each_more (v ∷ xs) x y ys e i =
      let p = parts v (f v) (each_as f xs) ys e in
      first_ok v (f v) p.first (p.rest ++ y ∷ []) (each_as f (xs ++ x ∷ [])) p.here (each_more xs x y p.rest p.others i) ∙ ap (λ zs. Ok (zs ++ y ∷ [])) p.all

  each_stops : (xs : List Value) (x : Value) (rest : List Value) (ys : List A) → each_as f xs ≡ Ok ys → f x ≡ None → each_as f ((xs ++ x ∷ []) ++ rest) ≡ Err x
  each_stops [] x rest ys e i = ap (λ o. first_as x o (each_as f rest)) i
  each_stops (v ∷ xs) x rest ys e i =
      let p = parts v (f v) (each_as f xs) ys e in
      first_err v (f v) p.first x (each_as f ((xs ++ x ∷ []) ++ rest)) p.here (each_stops xs x rest p.rest p.others i)

  -- the first element that is none
  pub each_other : (t : Table) (v : Ref) (k : ℕ) (ys : List A) → k < length (triples_at t v) → each_as f (listed t v k) ≡ Ok ys → f (element_at t v k) ≡ None → each_as f (elements_of t v) ≡ Err (element_at t v k)
  each_other t v k ys lt e i =
      ap (λ xs. each_as f xs) (sym (listed_front t v (suc k) (omega (arith, lt))))
      ∙ each_stops (listed t v k) (element_at t v k) (drop (suc k) (elements_of t v)) ys e i
