-- Forwards in the place of a plan's slots.
use Rattle.std.proofs.Common.{◌≡◌, ℕ, zero, suc, ◌+◌, ◌<◌, ◌⊎◌, ⊎_elim, inl, inr, Bool, true, false, nat_eq, eq-eqb, List, [], ◌∷◌, length, slice_get, slice_set, Some, Contains, sym, ap, ◌∙◌, refl, arith, length-set}
use Rattle.std.proofs.lemmas.Bool.{eqb-true}
use Rattle.std.proofs.lemmas.Option.{same_Some, none-some}
use Rattle.rr_space.specs.Graph.{IsAt}
use Rattle.rr_space.specs.Tables.{Slot, Led}
use Rattle.rr_space.specs.Moves.{forwarded_from, ForwardedIsExact}
use Rattle.rr_space.proofs.Renaming.{at_contains}

pub set_same : {A : Type 0} (xs : List A) (n : ℕ) (x : A) → n < length xs → slice_get (slice_set xs n x) n ≡ Some x
set_same [] n x lt = absurd (let w : ⊥ = omega (arith, lt) in w)
set_same (y ∷ xs) zero x lt = refl
set_same (y ∷ xs) (suc n) x lt = set_same xs n x (omega (arith, lt))

pub set_other : {A : Type 0} (xs : List A) (n m : ℕ) (x : A) → (n ≡ m → ⊥) → slice_get (slice_set xs n x) m ≡ slice_get xs m
set_other [] n m x differ = refl
set_other (y ∷ xs) zero zero x differ = absurd (differ refl)
set_other (y ∷ xs) zero (suc m) x differ = refl
set_other (y ∷ xs) (suc n) zero x differ = refl
set_other (y ∷ xs) (suc n) (suc m) x differ = set_other xs n m x (λ e. differ (ap suc e))

module _ (c : ℕ) where
  forwarded_size : (i : ℕ) (places : List ℕ) (slots : List Slot) → length (forwarded_from c i places slots) ≡ length slots
  forwarded_size i [] slots = refl
  forwarded_size i (n ∷ places) slots = forwarded_size (i + 1) places (slice_set slots n (Led c i)) ∙ length-set slots n (Led c i)

  forwarded_others : (i : ℕ) (places : List ℕ) (slots : List Slot) (m : ℕ) → (Contains places m → ⊥) → slice_get (forwarded_from c i places slots) m ≡ slice_get slots m
  forwarded_others i [] slots m out = refl
  forwarded_others i (n ∷ places) slots m out =
      forwarded_others (i + 1) places (slice_set slots n (Led c i)) m (λ (k, lt, e). out (suc k, omega (arith, lt), e))
      ∙ set_other slots n m (Led c i) (λ e. out (0, omega arith, e))

  forwarded_named : (i : ℕ) (places : List ℕ) (slots : List Slot) → ((n j k : ℕ) → IsAt places n j → IsAt places n k → j ≡ k) → ((n j : ℕ) → IsAt places n j → n < length slots)
      → (n j : ℕ) → IsAt places n j → slice_get (forwarded_from c i places slots) n ≡ Some (Led c (i + j))
  forwarded_named i [] slots one inside n j at = absurd (none-some n at)
  forwarded_named i (m ∷ places) slots one inside n zero at =
      let same : m ≡ n = same_Some m n at in
      forwarded_others (i + 1) places (slice_set slots m (Led c i)) n
      (λ has. let q = at_contains places n has in let w = one n 0 (suc q.0) at q.1 in let z : ⊥ = omega (arith, w) in z)
      ∙ ap (λ k. slice_get (slice_set slots m (Led c i)) k) (sym same)
      ∙ set_same slots m (Led c i) (inside m 0 refl) ∙ ap (λ k. Some (Led c k)) (let z : i ≡ i + 0 = omega arith in z)
  forwarded_named i (m ∷ places) slots one inside n (suc j) at =
      forwarded_named (i + 1) places (slice_set slots m (Led c i)) (λ a x y p q. let w = one a (suc x) (suc y) p q in omega (arith, w))
      (λ a x p. let w = inside a (suc x) p in omega (arith, w, length-set slots m (Led c i))) n j at
      ∙ ap (λ k. Some (Led c k)) (let z : (i + 1) + j ≡ i + suc j = omega arith in z)

pub forwarded_is_exact : ForwardedIsExact
forwarded_is_exact c places old one inside = record {
  size = forwarded_size c 0 places old;
  named = λ n i at. forwarded_named c 0 places old one inside n i at ∙ ap (λ k. Some (Led c k)) (let z : 0 + i ≡ i = omega arith in z);
  others = λ n out. forwarded_others c 0 places old n out;
}

pub nat_cases : (x n : ℕ) → (x ≡ n) ⊎ (x ≡ n → ⊥)
nat_cases x n = by (nat_eq x n) refl
  where
    by : (b : Bool) → nat_eq x n ≡ b → (x ≡ n) ⊎ (x ≡ n → ⊥)
    by true q = inl (eqb-true x n q)
    by false q = inr (λ e. let z : true ≡ false = sym (eq-eqb x n e) ∙ q in let w : ⊥ = cc in w)

pub list_has : (xs : List ℕ) (n : ℕ) → Contains xs n ⊎ (Contains xs n → ⊥)
list_has [] n = inr (λ (i, lt, e). let w : ⊥ = omega (arith, lt) in w)
list_has (x ∷ xs) n = ⊎_elim (λ (i, lt, e). inl (suc i, omega (arith, lt), e)) (λ out. by (nat_cases x n) out) (list_has xs n)
  where
    by : (x ≡ n) ⊎ (x ≡ n → ⊥) → (Contains xs n → ⊥) → Contains (x ∷ xs) n ⊎ (Contains (x ∷ xs) n → ⊥)
    by (inl e) out = inl (0, omega arith, e)
    by (inr e) out = inr (none e out)
      where
        none : (x ≡ n → ⊥) → (Contains xs n → ⊥) → Contains (x ∷ xs) n → ⊥
        none e out (zero, lt, q) = e q
        none e out (suc i, lt, q) = out (i, omega (arith, lt), q)
