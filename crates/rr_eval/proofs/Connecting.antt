-- Paths that visit none but the first numbers in between are all paths there are.
use Rattle.std.proofs.Common.{◌≡◌, ℕ, zero, suc, ◌<◌, ◌⊎◌, ⊎_elim, inl, inr, Bool, true, false, ◌&&◌, refl, subst, arith}
use Rattle.std.proofs.lemmas.Bool.{or_left, or_right, or_cases}
use Rattle.rr_eval.specs.Sharing.{connects, one_below}

pub both : (x y : Bool) → x ≡ true → y ≡ true → (x && y) ≡ true
both true true a b = refl
both true false a b = b
both false y a b = a

pub first : (x y : Bool) → (x && y) ≡ true → x ≡ true
first true y e = refl
first false y e = e

pub second : (x y : Bool) → (x && y) ≡ true → y ≡ true
second true y e = e
second false true e = refl
second false false e = e

below_or_last : (c k : ℕ) → c < suc k → (c < k) ⊎ (c ≡ k)
below_or_last c k h = grind arith

module _ (step : ℕ → ℕ → Bool) where
  -- the two ways in which a path may go that may visit one number more
  cases : (k a b : ℕ) → connects step (suc k) a b ≡ true → (connects step k a b ≡ true) ⊎ ((connects step k a k ≡ true) × (connects step k k b ≡ true))
  cases k a b e = ⊎_elim (λ w. inl w) (λ w. inr (first (connects step k a k) (connects step k k b) w, second (connects step k a k) (connects step k k b) w)) (or_cases (connects step k a b) (connects step k a k && connects step k k b) e)

  same : (k a b : ℕ) → connects step k a b ≡ true → connects step (suc k) a b ≡ true
  same k a b e = or_left (connects step k a b) (connects step k a k && connects step k k b) e

  over : (k a b : ℕ) → connects step k a k ≡ true → connects step k k b ≡ true → connects step (suc k) a b ≡ true
  over k a b e f = or_right (connects step k a b) (connects step k a k && connects step k k b) (both (connects step k a k) (connects step k k b) e f)

  -- a path to the last number, and one from it
  to_last : (k a : ℕ) → connects step (suc k) a k ≡ true → connects step k a k ≡ true
  to_last k a e = ⊎_elim (λ w. w) (λ w. w.0) (cases k a k e)

  from_last : (k b : ℕ) → connects step (suc k) k b ≡ true → connects step k k b ≡ true
  from_last k b e = ⊎_elim (λ w. w) (λ w. w.1) (cases k k b e)

  -- one path behind another, where that is known of paths that visit fewer
  joins_more : (k a c b : ℕ) → ((x y z : ℕ) → y < k → connects step k x y ≡ true → connects step k y z ≡ true → connects step k x z ≡ true) → c < suc k → connects step (suc k) a c ≡ true → connects step (suc k) c b ≡ true
      → connects step (suc k) a b ≡ true
  joins_more k a c b fewer lt e f = ⊎_elim (λ w. inside w) (λ w. last w) (below_or_last c k lt)
    where
      last : c ≡ k → connects step (suc k) a b ≡ true
      last w = over k a b (to_last k a (subst (λ x. connects step (suc k) a x ≡ true) w e)) (from_last k b (subst (λ x. connects step (suc k) x b ≡ true) w f))

      inside : c < k → connects step (suc k) a b ≡ true
      inside w = ⊎_elim
          (λ (x : connects step k a c ≡ true). ⊎_elim
          (λ (y : connects step k c b ≡ true). same k a b (fewer a c b w x y))
          (λ y. over k a b (fewer a c k w x y.0) y.1)
          (cases k c b f))
          (λ x. ⊎_elim
          (λ (y : connects step k c b ≡ true). over k a b x.0 (fewer k c b w x.1 y))
          (λ y. over k a b x.0 y.1)
          (cases k c b f))
          (cases k a c e)

  pub joins : (k a c b : ℕ) → c < k → connects step k a c ≡ true → connects step k c b ≡ true → connects step k a b ≡ true
  joins zero a c b lt e f = absurd (omega (arith, lt))
  joins (suc k) a c b lt e f = joins_more k a c b (joins k) lt e f

  -- a step is a path
  pub connects_step : (k a b : ℕ) → step a b ≡ true → connects step k a b ≡ true
  connects_step zero a b e = e
  connects_step (suc k) a b e = same k a b (connects_step k a b e)

  -- what holds at a number and is handed on by steps holds at the end of a path
  pub connected : (P : ℕ → Type 0) → ((a b : ℕ) → P a → step a b ≡ true → P b) → (k a b : ℕ) → P a → connects step k a b ≡ true → P b
  connected P on zero a b p e = on a b p e
  connected P on (suc k) a b p e = ⊎_elim (λ w. connected P on k a b p w) (λ w. connected P on k k b (connected P on k a k p w.0) w.1) (cases k a b e)

-- the test holds for one of the first numbers
pub one_there : (p : ℕ → Bool) (n k : ℕ) → k < n → p k ≡ true → one_below p n ≡ true
one_there p zero k lt e = absurd (omega (arith, lt))
one_there p (suc n) k lt e = ⊎_elim (λ w. or_left (one_below p n) (p n) (one_there p n k w e)) (λ w. or_right (one_below p n) (p n) (subst (λ x. p x ≡ true) w e)) (below_or_last k n lt)

pub there_one : (p : ℕ → Bool) (n : ℕ) → one_below p n ≡ true → (k : ℕ) × (k < n) × (p k ≡ true)
there_one p zero e = absurd cc
there_one p (suc n) e = ⊎_elim (λ w. let h = there_one p n w in (h.0, omega (arith, h.1), h.2)) (λ w. (n, omega arith, w)) (or_cases (one_below p n) (p n) e)
