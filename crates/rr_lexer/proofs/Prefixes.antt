-- The longest front whose bytes all pass.
use Rattle.std.proofs.Common.{ℕ, zero, suc, ◌+◌, ◌≤◌, ◌≡◌, Bool, true, false, ◌&&◌, cond, List, [], ◌∷◌, length, take, drop, get_or, refl, arith, zero-le}
use Rattle.std.proofs.Math.Numerals.{one-add}
use Rattle.std.proofs.lemmas.Bool.{false≢true}
use Rattle.rr_lexer.proofs.Heads.{and_true, pick}
use Rattle.std.specs.List.{list_all, prefix_len}

passes_step : (p : ℕ → Bool) (x : ℕ) (xs : List ℕ) (k : ℕ) (b : Bool) → p x ≡ b → list_all p (take k xs) ≡ true
    → list_all p (take (cond b (1 + k) 0) (x ∷ xs)) ≡ true
passes_step p x xs k true e h = rw one-add (rw e h)
passes_step p x xs k false e h = refl

pub prefix_passes : (p : ℕ → Bool) (s : List ℕ) → list_all p (take (prefix_len p s) s) ≡ true
prefix_passes p [] = refl
prefix_passes p (x ∷ xs) = passes_step p x xs (prefix_len p xs) (p x) refl (prefix_passes p xs)

longest_step : (p : ℕ → Bool) (x : ℕ) (xs : List ℕ) (m k : ℕ) (b : Bool) → p x ≡ b → (p x && list_all p (take m xs)) ≡ true
    → (list_all p (take m xs) ≡ true → m ≤ k) → suc m ≤ cond b (1 + k) 0
longest_step p x xs m k true e a h = let r = rw e at a in let le : m ≤ k = h r in omega arith
longest_step p x xs m k false e a h = let r = rw e at a in absurd (false≢true r)

pub prefix_longest : (p : ℕ → Bool) (s : List ℕ) (m : ℕ) → m ≤ length s → list_all p (take m s) ≡ true → m ≤ prefix_len p s
prefix_longest p s zero h a = zero-le
prefix_longest p [] (suc m) h a = omega arith
prefix_longest p (x ∷ xs) (suc m) h a =
    longest_step p x xs m (prefix_len p xs) (p x) refl a (λ rest. prefix_longest p xs m (omega arith) rest)

-- a front whose bytes pass, with a byte that does not behind it, is the longest
pub prefix_unique : (p : ℕ → Bool) (s : List ℕ) (m : ℕ) → m ≤ length s → list_all p (take m s) ≡ true → p (get_or (drop m s) 0 0) ≡ false → m ≡ prefix_len p s
prefix_unique p [] zero h a e = refl
prefix_unique p [] (suc m) h a e = absurd (omega arith)
prefix_unique p (x ∷ xs) zero h a e = let f : p x ≡ false = e in rw f refl
prefix_unique p (x ∷ xs) (suc m) h a e =
    let t = and_true (p x) (list_all p (take m xs)) a in
    let r = prefix_unique p xs m (omega arith) t.1 e in
    rw t.0 (omega (arith, r))

stops_step : (p : ℕ → Bool) (x : ℕ) (xs : List ℕ) (b : Bool) → p x ≡ b → p (get_or (drop (prefix_len p xs) xs) 0 0) ≡ false
    → p (get_or (drop (cond b (1 + prefix_len p xs) 0) (x ∷ xs)) 0 0) ≡ false
stops_step p x xs true e h = rw one-add h
stops_step p x xs false e h = e

-- behind the longest front whose bytes pass stands none that does
pub prefix_stops : (p : ℕ → Bool) → p 0 ≡ false → (s : List ℕ) → p (get_or (drop (prefix_len p s) s) 0 0) ≡ false
prefix_stops p z [] = z
prefix_stops p z (x ∷ xs) = stops_step p x xs (p x) refl (prefix_stops p z xs)

pub prefix_within : (p : ℕ → Bool) (s : List ℕ) → prefix_len p s ≤ length s
prefix_within p [] = omega arith
prefix_within p (x ∷ xs) = pick (λ k. k ≤ suc (length xs)) (p x) (1 + prefix_len p xs) 0 (λ e. let h = prefix_within p xs in omega arith) (λ e. omega arith)
