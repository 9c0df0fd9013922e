-- Lists with one element in the place of another, and lists whose elements know their places.
use Rattle.std.proofs.Common.{◌≡◌, ℕ, zero, suc, ◌+◌, ◌<◌, ◌⊎◌, inl, inr, List, [], ◌∷◌, length, slice_get, Option, Some, sym, ap, ◌∙◌, refl, arith}
use Rattle.std.specs.Prelude.{slice_set}
use Rattle.std.proofs.lemmas.Option.{none-some, same_Some}
use Rattle.rr_world.specs.Readings.{each_from}

pub eq_cases : (m n : ℕ) → (m ≡ n) ⊎ (m ≡ n → ⊥)
eq_cases m n = grind arith

pub set_at : {A : Type 0} (xs : List A) (i : ℕ) (x : A) → i < length xs → slice_get (slice_set xs i x) i ≡ Some x
set_at [] i x h = absurd (omega arith)
set_at (y ∷ xs) zero x h = refl
set_at (y ∷ xs) (suc i) x h = set_at xs i x (omega arith)

pub set_off : {A : Type 0} (xs : List A) (i j : ℕ) (x : A) → (j ≡ i → ⊥) → slice_get (slice_set xs i x) j ≡ slice_get xs j
set_off [] i j x differ = refl
set_off (y ∷ xs) zero zero x differ = absurd (differ refl)
set_off (y ∷ xs) zero (suc j) x differ = refl
set_off (y ∷ xs) (suc i) zero x differ = refl
set_off (y ∷ xs) (suc i) (suc j) x differ = set_off xs i j x (λ e. differ (omega arith))

pub set_cases : {A : Type 0} (xs : List A) (i j : ℕ) (x z : A) → slice_get (slice_set xs i x) j ≡ Some z → (x ≡ z) ⊎ (slice_get xs j ≡ Some z)
set_cases [] i j x z e = absurd (none-some z e)
set_cases (y ∷ ys) zero zero x z e = inl (same_Some x z e)
set_cases (y ∷ ys) zero (suc j) x z e = inr e
set_cases (y ∷ ys) (suc i) zero x z e = inr e
set_cases (y ∷ ys) (suc i) (suc j) x z e = set_cases ys i j x z e

pub set_twice : {A : Type 0} (xs : List A) (i : ℕ) (x y : A) → slice_set (slice_set xs i x) i y ≡ slice_set xs i y
set_twice [] i x y = refl
set_twice (z ∷ xs) zero x y = refl
set_twice (z ∷ xs) (suc i) x y = ap (λ ys. z ∷ ys) (set_twice xs i x y)

-- what was there is put there
pub set_back : {A : Type 0} (xs : List A) (i : ℕ) (x : A) → slice_get xs i ≡ Some x → slice_set xs i x ≡ xs
set_back [] i x at = refl
set_back (y ∷ xs) zero x at = ap (λ z. z ∷ xs) (sym (same_Some y x at))
set_back (y ∷ xs) (suc i) x at = ap (λ ys. y ∷ ys) (set_back xs i x at)

-- what is seen of an element stays, where it is so of the one that changed
pub seen_same : {A B : Type 0} (f : Option A → B) (xs : List A) (i j : ℕ) (x y : A) → slice_get xs i ≡ Some x → f (Some y) ≡ f (Some x)
    → f (slice_get (slice_set xs i y) j) ≡ f (slice_get xs j)
seen_same f [] i j x y at same = absurd (none-some x at)
seen_same f (z ∷ xs) zero zero x y at same = same ∙ ap f (sym at)
seen_same f (z ∷ xs) zero (suc j) x y at same = refl
seen_same f (z ∷ xs) (suc i) zero x y at same = refl
seen_same f (z ∷ xs) (suc i) (suc j) x y at same = seen_same f xs i j x y at same

-- ---- Elements with their places.

pub each_at : {A B : Type 0} (f : ℕ → A → B) (k : ℕ) (xs : List A) (i n : ℕ) (x : A) → n ≡ k + i → slice_get xs i ≡ Some x
    → slice_get (each_from f k xs) i ≡ Some (f n x)
each_at f k [] i n x e at = absurd (none-some x at)
each_at f k (y ∷ xs) zero n x e at = ap (λ z. Some (f k z)) (same_Some y x at) ∙ ap (λ m. Some (f m x)) (let w : k ≡ n = omega arith in w)
each_at f k (y ∷ xs) (suc i) n x e at = each_at f (k + 1) xs i n x (omega arith) at

pub each_back : {A B : Type 0} (f : ℕ → A → B) (k : ℕ) (xs : List A) (i n : ℕ) (z : B) → n ≡ k + i → slice_get (each_from f k xs) i ≡ Some z
    → (x : A) × (slice_get xs i ≡ Some x) × (f n x ≡ z)
each_back f k [] i n z e at = absurd (none-some z at)
each_back f k (y ∷ xs) zero n z e at = (y, refl, ap (λ m. f m y) (let w : n ≡ k = omega arith in w) ∙ same_Some (f k y) z at)
each_back f k (y ∷ xs) (suc i) n z e at = each_back f (k + 1) xs i n z (omega arith) at

pub each_same : {A B : Type 0} (f g : ℕ → A → B) (k : ℕ) (xs : List A)
    → ((i n : ℕ) (x : A) → n ≡ k + i → slice_get xs i ≡ Some x → g n x ≡ f n x) → each_from g k xs ≡ each_from f k xs
each_same f g k [] same = refl
each_same f g k (x ∷ xs) same =
    ap (λ y. y ∷ each_from g (k + 1) xs) (same 0 k x (omega arith) refl)
    ∙ ap (λ ys. f k x ∷ ys) (each_same f g (k + 1) xs (λ i n y e at. same (suc i) n y (omega arith) at))

pub each_set : {A B : Type 0} (f g : ℕ → A → B) (k : ℕ) (xs : List A) (j n : ℕ) (y : A) → n ≡ k + j
    → ((i m : ℕ) (x : A) → (i ≡ j → ⊥) → m ≡ k + i → slice_get xs i ≡ Some x → g m x ≡ f m x)
    → each_from g k (slice_set xs j y) ≡ slice_set (each_from f k xs) j (g n y)
each_set f g k [] j n y e same = refl
each_set f g k (x ∷ xs) zero n y e same =
    ap (λ m. g m y ∷ each_from g (k + 1) xs) (let w : k ≡ n = omega arith in w)
    ∙ ap (λ ys. g n y ∷ ys) (each_same f g (k + 1) xs (λ i m z w at. same (suc i) m z (λ q. let v : suc i ≡ zero = q in absurd (omega arith)) (omega arith) at))
each_set f g k (x ∷ xs) (suc j) n y e same =
    ap (λ z. z ∷ each_from g (k + 1) (slice_set xs j y)) (same 0 k x (λ q. let v : zero ≡ suc j = q in absurd (omega arith)) (omega arith) refl)
    ∙ ap (λ ys. f k x ∷ ys) (each_set f g (k + 1) xs j n y (omega arith) (λ i m z d w at. same (suc i) m z (λ q. d (omega arith)) (omega arith) at))
