-- The scan of digits finds their value and their end, and nothing else.
use Rattle.std.proofs.Common.{ℕ, zero, suc, ◌+◌, ◌*◌, ◌^◌, ◌<◌, ◌≤◌, ◌≡◌, ◌==◌, ◌&&◌, Bool, true, false, cond, List, [], ◌∷◌, ◌++◌, length, take, drop, get_or, refl, ap, sym, ◌∙◌, arith, one-add}
use Rattle.std.proofs.Math.Seq.{drop-cons}
use Rattle.std.proofs.Math.Nat.{pow-zero, pow-suc}
use Rattle.std.proofs.lemmas.Bool.{false≢true, eqb-true, ltb-true, le-ltb}
use Rattle.rr_lexer.proofs.Heads.{and_true, or_false}
use Rattle.rr_lexer.specs.Numbers.{digit_value, is_digit_of, goes_on_in, place_value, IsRest}
use Rattle.rr_lexer.specs.Numbers.IsRest.{stop, digit, gap}
use Rattle.rr_lexer.specs.Scans.{grow, digits_from}

times_more : (a base d : ℕ) → 0 < base → a ≤ a * base + d
times_more a base d h = grind arith

grows_by : (base : ℕ) → 0 < base → (s : List ℕ) (a : ℕ) (x y : Bool) (d : ℕ) → ((c : ℕ) → c ≤ (digits_from base s c).0)
    → a ≤ (cond x (grow 1 (digits_from base s (a * base + d))) (cond y (grow 1 (digits_from base s a)) (a, 0))).0
grows_by base p s a true y d rec = let h = rec (a * base + d) in omega (arith, times_more a base d p)
grows_by base p s a false true d rec = rec a
grows_by base p s a false false d rec = omega arith

-- a number only grows
pub digits_grow : (base : ℕ) → 0 < base → (s : List ℕ) (a : ℕ) → a ≤ (digits_from base s a).0
digits_grow base p [] a = omega arith
digits_grow base p (b ∷ bs) a = grows_by base p bs a (is_digit_of base b) (b == 95 && is_digit_of base (get_or bs 0 0)) (digit_value b) (digits_grow base p bs)

-- one more digit
pub grows_here : (base : ℕ) → 0 < base → (s : List ℕ) (i a : ℕ) → i < length s → is_digit_of base (get_or s i 0) ≡ true
    → a * base + digit_value (get_or s i 0) ≤ (digits_from base (drop i s) a).0
grows_here base p s i a h q = rw (drop-cons s i 0) (rw q (digits_grow base p (drop (suc i) s) _))

-- no digit stands past the end
pub digit_within : (base : ℕ) (s : List ℕ) (i : ℕ) → base ≤ 16 → is_digit_of base (get_or s i 0) ≡ true → i < length s
unfolding digit_value
digit_within base [] i h e = let l : 255 < base = ltb-true 255 base e in absurd (omega arith)
digit_within base (x ∷ xs) zero h e = omega arith
digit_within base (x ∷ xs) (suc i) h e = let l = digit_within base xs i h e in omega arith

-- The number that digits grow to, from left to right, where those before spell a.
abbrev pub grown : ℕ → ℕ → List ℕ → ℕ
grown base a [] = a
grown base a (d ∷ ds) = grown base (a * base + d) ds

horner : (a base d p q : ℕ) → (a * base + d) * p + q ≡ a * (p * base) + (d * p + q)
horner a base d p q = grind arith

-- it is the one that their places give
pub grown-place_value : (base a : ℕ) (ds : List ℕ) → grown base a ds ≡ a * base ^ length ds + place_value base ds
grown-place_value base a [] = rw (pow-zero base) (omega arith)
grown-place_value base a (d ∷ ds) =
    grown-place_value base (a * base + d) ds ∙ rw (pow-suc base (length ds)) (horner a base d (base ^ length ds) (place_value base ds))

-- completeness
pub ends : (base : ℕ) (x : List ℕ) (a : ℕ) → goes_on_in base (get_or x 0 0) (get_or x 1 0) ≡ false → digits_from base x a ≡ (a, 0)
ends base [] a h = refl
ends base (b ∷ bs) a h = let o = or_false (is_digit_of base b) (b == 95 && is_digit_of base (get_or bs 0 0)) h in rw (o.0, o.1) refl

gap_is_no_digit : (base : ℕ) → base ≤ 16 → is_digit_of base 95 ≡ false
unfolding digit_value
gap_is_no_digit base h = le-ltb 255 base (omega arith)

pub digits_complete : {base : ℕ} {w ds : List ℕ} (a : ℕ) → base ≤ 16 → IsRest base w ds → (x : List ℕ) → goes_on_in base (get_or x 0 0) (get_or x 1 0) ≡ false
    → digits_from base (w ++ x) a ≡ (grown base a ds, length w)
digits_complete {base} a l stop x h = ends base x a h
digits_complete {base} a l (digit {d} {rest} {values} q t) x h =
    rw (q, digits_complete (a * base + digit_value d) l t x h) (ap (λ k. (grown base (a * base + digit_value d) values, k)) (one-add (length rest)))
digits_complete {base} a l (gap {d} {rest} {values} q t) x h =
    rw (gap_is_no_digit base l, q, digits_complete (a * base + digit_value d) l t x h) (ap (λ k. (grown base (a * base + digit_value d) values, k)) (omega arith))

-- soundness
pub record Sound (base : ℕ) (s : List ℕ) (a : ℕ) (p : ℕ × ℕ) : Type 0 where
  pub values : List ℕ
  pub rest : IsRest base (take p.1 s) values
  pub value : p.0 ≡ grown base a values
  pub whole : goes_on_in base (get_or (drop p.1 s) 0 0) (get_or (drop p.1 s) 1 0) ≡ false
  pub within : p.1 ≤ length s

sound_digit : (base b : ℕ) (bs : List ℕ) (a : ℕ) (p : ℕ × ℕ) → is_digit_of base b ≡ true → Sound base bs (a * base + digit_value b) p → Sound base (b ∷ bs) a (grow 1 p)
sound_digit base b bs a p q r = record {
  values = digit_value b ∷ r.values;
  rest = rw (one-add p.1) (digit q r.rest);
  value = r.value;
  whole = rw (one-add p.1) r.whole;
  within = omega (arith, r.within);
}

sound_gap : (base b d : ℕ) (ds : List ℕ) (a : ℕ) (p : ℕ × ℕ) → b ≡ 95 → is_digit_of base d ≡ true → Sound base ds (a * base + digit_value d) p → Sound base (b ∷ d ∷ ds) a (grow 1 (grow 1 p))
sound_gap base b d ds a p e q r = record {
  values = digit_value d ∷ r.values;
  rest = rw (one-add p.1, one-add (suc p.1), e) (gap q r.rest);
  value = r.value;
  whole = rw (one-add p.1, one-add (suc p.1)) r.whole;
  within = omega (arith, r.within);
}

sound_end : (base b : ℕ) (bs : List ℕ) (a : ℕ) → is_digit_of base b ≡ false → (b == 95 && is_digit_of base (get_or bs 0 0)) ≡ false → Sound base (b ∷ bs) a (a, 0)
sound_end base b bs a p q = record { values = []; rest = stop; value = refl; whole = rw (p, q) refl; within = omega arith }

-- by the two tests on the first byte
module _ (base b : ℕ) (bs : List ℕ) (a : ℕ) where
  by_tests : (x y : Bool) → is_digit_of base b ≡ x → (b == 95 && is_digit_of base (get_or bs 0 0)) ≡ y
      → Sound base bs (a * base + digit_value b) (digits_from base bs (a * base + digit_value b)) → (b ≡ 95 → is_digit_of base (get_or bs 0 0) ≡ true → Sound base (b ∷ bs) a (grow 1 (digits_from base bs a)))
      → Sound base (b ∷ bs) a (cond x (grow 1 (digits_from base bs (a * base + digit_value b))) (cond y (grow 1 (digits_from base bs a)) (a, 0)))
  by_tests true y p q r g = sound_digit base b bs a _ p r
  by_tests false true p q r g = let t = and_true (b == 95) (is_digit_of base (get_or bs 0 0)) q in g (eqb-true b 95 t.0) t.1
  by_tests false false p q r g = sound_end base b bs a p q

zero_is_no_digit : (base : ℕ) → base ≤ 16 → is_digit_of base 0 ≡ false
unfolding digit_value
zero_is_no_digit base h = le-ltb 255 base (omega arith)

pub digits_sound : (base : ℕ) → base ≤ 16 → (s : List ℕ) (a : ℕ) → Sound base s a (digits_from base s a)
digits_sound base l [] a = record { values = []; rest = stop; value = refl; whole = rw (zero_is_no_digit base l) refl; within = omega arith }
digits_sound base l (b ∷ []) a = by_tests base b [] a (is_digit_of base b) (b == 95 && is_digit_of base 0) refl refl (digits_sound base l [] (a * base + digit_value b))
    (λ e t. absurd (false≢true (sym (zero_is_no_digit base l) ∙ t)))
digits_sound base l (b ∷ d ∷ ds) a = by_tests base b (d ∷ ds) a (is_digit_of base b) (b == 95 && is_digit_of base d) refl refl (digits_sound base l (d ∷ ds) (a * base + digit_value b))
    (λ e t. rw t (sound_gap base b d ds a (digits_from base ds (a * base + digit_value d)) e t (digits_sound base l ds (a * base + digit_value d))))
