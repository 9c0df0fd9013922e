-- The number at a place is the one that the scan finds.
use Rattle.std.proofs.Common.{ℕ, zero, suc, ◌+◌, ◌-◌, ◌<◌, ◌≤◌, ◌≡◌, ◌==◌, ◌≢◌, ◌⊎◌, ◌↔◌, inl, inr, ◌||◌, ◌&&◌, not, Bool, true, false, cond, List, [], ◌∷◌, ◌++◌, length, take, drop, get_or, refl, ap, sym, ◌∙◌, arith, Option, Some, None, length-drop, nat_lt}
use Rattle.std.proofs.lemmas.List.{take-append-drop, take_all, drop_all}
use Rattle.std.proofs.lemmas.Bool.{eqb-true, eq-eqb, ne_eqb, ltb-false, le-ltb}
use Rattle.std.proofs.lemmas.Bool.Decides.{eqb_tells}
use Rattle.rr_lexer.specs.Numbers.{digit_value, is_digit_of, goes_on_in, base_of, has_base, largest_int, place_value, IsRest, IsDecimal, IsBased, IsInt}
use Rattle.rr_lexer.specs.Contents.{whole_number, int_value_of}
use Rattle.rr_lexer.specs.Scans.{digits_from, checked_number, number_at}
use Rattle.rr_lexer.proofs.Heads.{at_drop, at_drops, head_is, second_is, third_is, cut, size_is, whole, front_one, chosen, pick, some_same, or_false, and_true}
use Rattle.rr_lexer.proofs.Digits.{digits_complete, digits_sound, grown, grown-place_value, ends, digit_within}

abbrev GoesOnAt : ℕ → List ℕ → ℕ → Bool
GoesOnAt base s m = goes_on_in base (get_or s m 0) (get_or s (m + 1) 0)

goes_on_behind : (base : ℕ) (s : List ℕ) (m : ℕ) → goes_on_in base (get_or (drop m s) 0 0) (get_or (drop m s) 1 0) ≡ GoesOnAt base s m
goes_on_behind base s m =
    let e : get_or (drop m s) 0 0 ≡ get_or s m 0 = at_drop s m 0 ∙ ap (λ k. get_or s k 0) (omega arith) in
    rw (e, at_drop s m 1) refl

goes_on_far : (base : ℕ) (s : List ℕ) (k q : ℕ) → goes_on_in base (get_or (drop q (drop k s)) 0 0) (get_or (drop q (drop k s)) 1 0) ≡ GoesOnAt base s (k + q)
goes_on_far base s k q =
    let e : get_or (drop q (drop k s)) 0 0 ≡ get_or s (k + q) 0 = at_drops s k q 0 ∙ ap (λ k. get_or s k 0) (omega arith) in
    let f : get_or (drop q (drop k s)) 1 0 ≡ get_or s (k + q + 1) 0 = at_drops s k q 1 ∙ ap (λ k. get_or s k 0) (omega arith) in
    rw (e, f) refl

base_small : (b : ℕ) → base_of b ≤ 16
base_small b = pick (λ k. k ≤ 16) (b == 120) 16 _ (λ e. omega arith) (λ e. pick (λ k. k ≤ 16) (b == 98) 2 _ (λ f. omega arith) (λ f. pick (λ k. k ≤ 16) (b == 111) 8 0 (λ g. omega arith) (λ g. omega arith)))

and_no : (x y : Bool) → y ≡ false → (x && y) ≡ false
and_no true y h = h
and_no false y h = refl

not_here : (x y : Bool) → x ≡ false → (x && y) ≡ false
not_here x y h = rw h refl

-- which of its parts the number is
at_decimal : (s : List ℕ) → is_digit_of 10 (get_or s 0 0) ≡ true → (get_or s 0 0 == 48 && has_base (get_or s 1 0) (get_or s 2 0)) ≡ false
    → (get_or s 0 0 == 48 && goes_on_in 10 (get_or s 1 0) (get_or s 2 0)) ≡ false → number_at s ≡ checked_number 1 10 s
unfolding number_at
at_decimal s a b c = rw (a, b, c) refl

zero_is_digit : is_digit_of 10 48 ≡ true
unfolding digit_value
zero_is_digit = refl

at_based : (s : List ℕ) → get_or s 0 0 ≡ 48 → has_base (get_or s 1 0) (get_or s 2 0) ≡ true → number_at s ≡ checked_number 3 (base_of (get_or s 1 0)) s
unfolding number_at
at_based s a b = rw (a, zero_is_digit, b) refl

-- completeness
checked_complete : (size base : ℕ) (s : List ℕ) (m v : ℕ) (rest values : List ℕ) → base ≤ 16 → drop size s ≡ rest ++ drop m s → size + length rest ≡ m
    → IsRest base rest values → v ≡ place_value base (digit_value (get_or s (size - 1) 0) ∷ values) → goes_on_in base (get_or (drop m s) 0 0) (get_or (drop m s) 1 0) ≡ false
    → goes_on_in 10 (get_or (drop m s) 0 0) (get_or (drop m s) 1 0) ≡ false → v ≤ largest_int → checked_number size base s ≡ Some (v, m)
checked_complete size base s m v rest values l c e r p w g f =
    let first = digit_value (get_or s (size - 1) 0) in
    let value : grown base first values ≡ v = grown-place_value base first values ∙ sym p in
    let d : digits_from base (drop size s) first ≡ (v, length rest) = rw (c, ← value) (digits_complete first l r (drop m s) w) in
    let t : GoesOnAt 10 s m ≡ false = sym (goes_on_behind 10 s m) ∙ g in
    rw (d, e, t, le-ltb largest_int v f) refl

cut_three : (s : List ℕ) (m a b c : ℕ) (rest : List ℕ) → take m s ≡ a ∷ b ∷ c ∷ rest → drop 3 s ≡ rest ++ drop m s
cut_three [] zero a b c rest h = absurd cc
cut_three [] (suc m) a b c rest h = absurd cc
cut_three (x ∷ xs) zero a b c rest h = absurd cc
cut_three (x ∷ []) (suc zero) a b c rest h = absurd cc
cut_three (x ∷ []) (suc (suc m)) a b c rest h = absurd cc
cut_three (x ∷ y ∷ ys) (suc zero) a b c rest h = absurd cc
cut_three (x ∷ y ∷ []) (suc (suc zero)) a b c rest h = absurd cc
cut_three (x ∷ y ∷ []) (suc (suc (suc m))) a b c rest h = absurd cc
cut_three (x ∷ y ∷ z ∷ zs) (suc (suc zero)) a b c rest h = absurd cc
cut_three (x ∷ y ∷ z ∷ zs) (suc (suc (suc m))) a b c rest h = let e : take m zs ≡ rest = cc in rw (← e) (sym (take-append-drop m zs))

decimal_tests : (s : List ℕ) (m v : ℕ) → m ≤ length s → IsDecimal (take m s) (drop m s) v → get_or (take m s) 0 0 ≡ get_or s 0 0
    → ((get_or s 0 0 == 48 && has_base (get_or s 1 0) (get_or s 2 0)) ≡ false) × ((get_or s 0 0 == 48 && goes_on_in 10 (get_or s 1 0) (get_or s 2 0)) ≡ false)
decimal_tests s m v h w e = elim w.plain [
  | inl p ↦ let q : (get_or s 0 0 == 48) ≡ false = ne_eqb _ 48 (rw e at p) in (not_here _ _ q, not_here _ _ q)
  | inr p ↦
      let one : m ≡ 1 = omega (arith, size_is s m 48 [] h p.0) in
      let b = rw one at p.1 in
      let g = rw one at w.digits.whole in
      let b' : has_base (get_or s 1 0) (get_or s 2 0) ≡ false = rw (← at_drop s 1 0, ← at_drop s 1 1) b in
      let g' : goes_on_in 10 (get_or s 1 0) (get_or s 2 0) ≡ false = rw (← at_drop s 1 0, ← at_drop s 1 1) g in
      (and_no _ _ b', and_no _ _ g')
]

decimal_complete : (s : List ℕ) (m v : ℕ) → m ≤ length s → IsDecimal (take m s) (drop m s) v → v ≤ largest_int → number_at s ≡ Some (v, m)
decimal_complete s m v h w f =
    let d = w.digits in
    let e = head_is s m d.first d.rest d.word_is in
    let t = decimal_tests s m v h w (ap (λ x. get_or x 0 0) d.word_is ∙ sym e) in
    let i : is_digit_of 10 (get_or s 0 0) ≡ true = rw e d.is_first in
    at_decimal s i t.0 t.1
    ∙ checked_complete 1 10 s m v d.rest d.values (omega arith) (cut s m d.first d.rest d.word_is) (omega (arith, size_is s m d.first d.rest h d.word_is)) d.is_rest (rw e d.value_is) d.whole d.whole f

based_complete : (s : List ℕ) (m v : ℕ) → m ≤ length s → IsBased (take m s) (drop m s) v → v ≤ largest_int → number_at s ≡ Some (v, m)
based_complete s m v h w f =
    let d = w.digits in
    let u : take m s ≡ 48 ∷ w.mark ∷ d.first ∷ d.rest = w.word_is ∙ ap (λ x. 48 ∷ w.mark ∷ x) d.word_is in
    let a = head_is s m 48 _ u in
    let b = second_is s m 48 w.mark _ u in
    let c = third_is s m 48 w.mark d.first _ u in
    let l = size_is s m 48 _ h u in
    let i : has_base (get_or s 1 0) (get_or s 2 0) ≡ true = rw (b, c) d.is_first in
    at_based s a i
    ∙ rw b (checked_complete 3 (base_of w.mark) s m v d.rest d.values (base_small w.mark) (cut_three s m 48 w.mark d.first d.rest u) (omega (arith, l)) d.is_rest (rw c d.value_is) d.whole w.ends f)

pub number_complete : (s : List ℕ) (m v : ℕ) → m ≤ length s → IsInt (take m s) (drop m s) v → number_at s ≡ Some (v, m)
number_complete s m v h w = elim w.spelled [ inl d ↦ decimal_complete s m v h d w.fits | inr b ↦ based_complete s m v h b w.fits ]

-- soundness
pub record IntFound (s : List ℕ) (p : ℕ × ℕ) : Type 0 where
  pub some : 0 < p.1
  pub within : p.1 ≤ length s
  pub spelled : IsInt (take p.1 s) (drop p.1 s) p.0

record Checked (size base : ℕ) (s : List ℕ) (p q : ℕ × ℕ) : Type 0 where
  value_is : p.0 ≡ q.0
  size_is : p.1 ≡ size + q.1
  fits : p.0 ≤ largest_int
  ends : GoesOnAt 10 s p.1 ≡ false

checked_sound : (size base : ℕ) (s : List ℕ) (p : ℕ × ℕ) → checked_number size base s ≡ Some p
    → Checked size base s p (digits_from base (drop size s) (digit_value (get_or s (size - 1) 0)))
checked_sound size base s p h =
    let q = digits_from base (drop size s) (digit_value (get_or s (size - 1) 0)) in
    elim (chosen (nat_lt largest_int q.0 || GoesOnAt 10 s (size + q.1)) None (Some (q.0, size + q.1)) (Some p) h) [
      | inl t ↦ absurd (let g = t.1 in cc)
      | inr t ↦
          let o = or_false (nat_lt largest_int q.0) (GoesOnAt 10 s (size + q.1)) t.0 in
          let e : (q.0, size + q.1) ≡ p = some_same t.1 in
          record {
            value_is = sym (ap (λ x. x.0) e);
            size_is = sym (ap (λ x. x.1) e);
            fits = rw (← ap (λ x. x.0) e) (ltb-false largest_int q.0 o.0);
            ends = rw (← ap (λ x. x.1) e) o.1;
          }
    ]

some_byte : (base : ℕ) (s : List ℕ) (i : ℕ) → base ≤ 16 → is_digit_of base (get_or s i 0) ≡ true → i < length s
some_byte base s i l e = digit_within base s i l e

decimal_plain : (s : List ℕ) (p : ℕ × ℕ) (x : Bool) → ((x ≡ true) × (get_or s 0 0 ≡ 48)) ⊎ ((x ≡ false) × (get_or s 0 0 ≢ 48))
    → 0 < length s → get_or (take p.1 s) 0 0 ≡ get_or s 0 0 → p.1 ≡ 1 + (digits_from 10 (drop 1 s) (digit_value (get_or s 0 0))).1
    → (get_or s 0 0 == 48 && has_base (get_or s 1 0) (get_or s 2 0)) ≡ false → (get_or s 0 0 == 48 && goes_on_in 10 (get_or s 1 0) (get_or s 2 0)) ≡ false
    → (get_or (take p.1 s) 0 0 ≢ 48) ⊎ ((take p.1 s ≡ 48 ∷ []) × (has_base (get_or (drop p.1 s) 0 0) (get_or (drop p.1 s) 1 0) ≡ false))
decimal_plain s p x (inr t) l e z b g = inl (rw e t.1)
decimal_plain s p x (inl t) l e z b g =
    let b' : has_base (get_or s 1 0) (get_or s 2 0) ≡ false = rw t.1 at b in
    let g' : goes_on_in 10 (get_or s 1 0) (get_or s 2 0) ≡ false = rw t.1 at g in
    let n : digits_from 10 (drop 1 s) (digit_value (get_or s 0 0)) ≡ (digit_value (get_or s 0 0), 0) = ends 10 (drop 1 s) _ (rw (at_drop s 1 0, at_drop s 1 1) g') in
    let one : p.1 ≡ 1 = omega (arith, z, ap (λ x. x.1) n) in
    inr (rw one (front_one s 48 l t.1), rw one (rw (at_drop s 1 0, at_drop s 1 1) b'))

decimal_sound : (s : List ℕ) (p : ℕ × ℕ) → is_digit_of 10 (get_or s 0 0) ≡ true → (get_or s 0 0 == 48 && has_base (get_or s 1 0) (get_or s 2 0)) ≡ false
    → (get_or s 0 0 == 48 && goes_on_in 10 (get_or s 1 0) (get_or s 2 0)) ≡ false → checked_number 1 10 s ≡ Some p → IntFound s p
decimal_sound s p i b g h =
    let c = checked_sound 1 10 s p h in
    let q = digits_from 10 (drop 1 s) (digit_value (get_or s 0 0)) in
    let r = digits_sound 10 (omega arith) (drop 1 s) (digit_value (get_or s 0 0)) in
    let l : 0 < length s = some_byte 10 s 0 (omega arith) i in
    let n : p.1 ≡ q.1 + 1 = omega (arith, c.size_is) in
    let w : q.1 < length s = omega (arith, r.within, length-drop 1 s, l) in
    let word : take p.1 s ≡ get_or s 0 0 ∷ take q.1 (drop 1 s) = rw n (whole s q.1 (get_or s 0 0) refl w) in
    record {
      some = omega (arith, n);
      within = omega (arith, n, w);
      spelled = record {
        spelled = inl (record {
          digits = record {
            first = get_or s 0 0;
            rest = take q.1 (drop 1 s);
            values = r.values;
            word_is = word;
            is_first = i;
            is_rest = r.rest;
            value_is = c.value_is ∙ r.value ∙ grown-place_value _ _ r.values;
            whole = goes_on_behind 10 s p.1 ∙ c.ends;
          };
          plain = decimal_plain s p (get_or s 0 0 == 48) (eqb_tells (get_or s 0 0) 48) l (ap (λ x. get_or x 0 0) word) c.size_is b g;
        });
        fits = c.fits;
      };
    }

three_at : (s : List ℕ) (n : ℕ) → 2 < length s → take (suc (suc (suc n))) s ≡ get_or s 0 0 ∷ get_or s 1 0 ∷ get_or s 2 0 ∷ take n (drop 3 s)
three_at [] n l = absurd (omega arith)
three_at (x ∷ []) n l = absurd (omega arith)
three_at (x ∷ y ∷ []) n l = absurd (omega arith)
three_at (x ∷ y ∷ z ∷ zs) n l = refl

based_sound : (s : List ℕ) (p : ℕ × ℕ) → get_or s 0 0 ≡ 48 → has_base (get_or s 1 0) (get_or s 2 0) ≡ true
    → checked_number 3 (base_of (get_or s 1 0)) s ≡ Some p → IntFound s p
based_sound s p z i h =
    let base = base_of (get_or s 1 0) in
    let c = checked_sound 3 base s p h in
    let q = digits_from base (drop 3 s) (digit_value (get_or s 2 0)) in
    let r = digits_sound base (base_small (get_or s 1 0)) (drop 3 s) (digit_value (get_or s 2 0)) in
    let l : 2 < length s = some_byte base s 2 (base_small (get_or s 1 0)) i in
    let n : p.1 ≡ suc (suc (suc q.1)) = omega (arith, c.size_is) in
    let w : p.1 ≤ length s = omega (arith, r.within, length-drop 3 s, l, n) in
    let word : take p.1 s ≡ 48 ∷ get_or s 1 0 ∷ get_or s 2 0 ∷ take q.1 (drop 3 s) = rw (n, ← z) (three_at s q.1 l) in
    let far : GoesOnAt base s (3 + q.1) ≡ false = sym (goes_on_far base s 3 q.1) ∙ r.whole in
    let near : GoesOnAt base s p.1 ≡ false = rw c.size_is far in
    record {
      some = omega (arith, n);
      within = w;
      spelled = record {
        spelled = inr (record {
          mark = get_or s 1 0;
          rest = get_or s 2 0 ∷ take q.1 (drop 3 s);
          word_is = word;
          digits = record {
            first = get_or s 2 0;
            rest = take q.1 (drop 3 s);
            values = r.values;
            word_is = refl;
            is_first = i;
            is_rest = r.rest;
            value_is = c.value_is ∙ r.value ∙ grown-place_value _ _ r.values;
            whole = goes_on_behind base s p.1 ∙ near;
          };
          ends = goes_on_behind 10 s p.1 ∙ c.ends;
        });
        fits = c.fits;
      };
    }

not_false : (x : Bool) → (x ≡ true → ⊥) → x ≡ false
not_false true h = absurd (h refl)
not_false false h = refl

by_parts : (s : List ℕ) (p : ℕ × ℕ) (x y z : Bool) → is_digit_of 10 (get_or s 0 0) ≡ x → (get_or s 0 0 == 48 && has_base (get_or s 1 0) (get_or s 2 0)) ≡ y
    → (get_or s 0 0 == 48 && goes_on_in 10 (get_or s 1 0) (get_or s 2 0)) ≡ z
    → number_at s ≡ Some p → IntFound s p
unfolding number_at
by_parts s p false y z a b c h = let g = rw a at h in absurd cc
by_parts s p true true z a b c h =
    let t = and_true (get_or s 0 0 == 48) (has_base (get_or s 1 0) (get_or s 2 0)) b in
    based_sound s p (eqb-true _ 48 t.0) t.1 (rw (a, b) at h)
by_parts s p true false true a b c h = let g = rw (a, b, c) at h in absurd cc
by_parts s p true false false a b c h = decimal_sound s p a b c (rw (a, b, c) at h)

pub number_sound : (s : List ℕ) (p : ℕ × ℕ) → number_at s ≡ Some p → IntFound s p
number_sound s p h = by_parts s p _ _ _ refl refl refl h

digit_or_none : (x : Bool) (o : Option (ℕ × ℕ)) (p : ℕ × ℕ) → cond (not x) None o ≡ Some p → x ≡ true
digit_or_none true o p h = refl
digit_or_none false o p h = absurd cc

pub first_digit : (s : List ℕ) (p : ℕ × ℕ) → number_at s ≡ Some p → is_digit_of 10 (get_or s 0 0) ≡ true
unfolding number_at
first_digit s p h = digit_or_none (is_digit_of 10 (get_or s 0 0)) _ p h

-- the value of a whole word
found_whole : (word : List ℕ) (v : ℕ) (o : Option (ℕ × ℕ)) → whole_number (length word) o ≡ Some v → o ≡ Some (v, length word)
found_whole word v None h = absurd cc
found_whole word v (Some p) h = by_size (p.1 == length word) refl h where
  by_size : (x : Bool) → (p.1 == length word) ≡ x → cond x (Some p.0) None ≡ Some v → Some p ≡ Some (v, length word)
  by_size true e g = let size = eqb-true p.1 (length word) e in let value : p.0 ≡ v = cc in rw (← value, ← size) refl
  by_size false e g = absurd cc

pub value_is_spelled : (word : List ℕ) (v : ℕ) → (int_value_of word ≡ Some v) ↔ IsInt word [] v
unfolding int_value_of
value_is_spelled word v = (
  λ h. rw (← take_all (length word) word (omega arith), ← drop_all (length word) word (omega arith)) (number_sound word (v, length word) (found_whole word v (number_at word) h)).spelled,
  λ i. rw (number_complete word (length word) v (omega arith) (rw (take_all (length word) word (omega arith), drop_all (length word) word (omega arith)) i), eq-eqb (length word) (length word) refl) refl,
)
