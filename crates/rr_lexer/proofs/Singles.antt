-- The scan of a text in single quotes finds its end, and nothing else.
use Rattle.std.proofs.Common.{ℕ, suc, ◌+◌, ◌<◌, ◌≤◌, ◌≡◌, ◌==◌, inl, inr, Bool, true, false, cond, List, [], ◌∷◌, ◌++◌, length, take, drop, get_or, refl, ap, sym, ◌∙◌, arith, Option, Some, None, one-add, length-take}
use Rattle.std.proofs.lemmas.List.{take-append-drop}
use Rattle.std.proofs.lemmas.Bool.{ne_eqb, eqb-true, eqb-false}
use Rattle.rr_lexer.specs.Scans.{single_len, longer}
use Rattle.rr_lexer.specs.Texts.{IsSingleRest, IsSingle}
use Rattle.rr_lexer.specs.Texts.IsSingleRest.{close, plain_byte, backslash}
use Rattle.rr_lexer.proofs.Heads.{chosen, some_same, cut, whole}

abbrev RestFrom : Bool → List ℕ → Type 0
RestFrom true w = IsSingleRest (92 ∷ w)
RestFrom false w = IsSingleRest w

longer_some : (x : Option ℕ) (n : ℕ) → longer 1 x ≡ Some n → (k : ℕ) × (x ≡ Some k) × (n ≡ suc k)
longer_some None n h = absurd cc
longer_some (Some k) n h = let e : 1 + k ≡ n = cc in (k, refl, omega arith)

pub single_sound : (s : List ℕ) (e : Bool) (n : ℕ) → single_len s e ≡ Some n → RestFrom e (take n s)
single_sound [] e n h = absurd cc
single_sound (b ∷ bs) true n h = let f = longer_some (single_len bs false) n h in rw f.2 (backslash (single_sound bs false f.0 f.1))
single_sound (b ∷ bs) false n h = elim (chosen (b == 39) (Some 1) (cond (b == 92) (longer 1 (single_len bs true)) (longer 1 (single_len bs false))) (Some n) h) [
  | inl q ↦ let e : 1 ≡ n = some_same q.1 in rw (← e, eqb-true b 39 q.0) close
  | inr q ↦ elim (chosen (b == 92) (longer 1 (single_len bs true)) (longer 1 (single_len bs false)) (Some n) q.1) [
    | inl t ↦ let f = longer_some (single_len bs true) n t.1 in rw (f.2, eqb-true b 92 t.0) (single_sound bs true f.0 f.1)
    | inr t ↦ let f = longer_some (single_len bs false) n t.1 in rw f.2 (plain_byte (eqb-false b 39 q.0) (eqb-false b 92 t.0) (single_sound bs false f.0 f.1))
  ]
]

pub single_complete : {w : List ℕ} → IsSingleRest w → (x : List ℕ) → single_len (w ++ x) false ≡ Some (length w)
single_complete close x = refl
single_complete (plain_byte {b} {rest} p q t) x = rw (ne_eqb b 39 p, ne_eqb b 92 q, single_complete t x) (ap (λ k. Some k) (one-add (length rest)))
single_complete (backslash {b} {rest} t) x = rw (single_complete t x) (ap (λ k. Some k) (omega arith))

pub same_single : (s : List ℕ) (m : ℕ) (w : IsSingle (take m s)) → single_len (drop 1 s) false ≡ Some (length w.rest)
same_single s m w = rw (cut s m 39 w.rest w.whole) (single_complete w.tail (drop m s))

pub single_after : (s : List ℕ) (n : ℕ) → get_or s 0 0 ≡ 39 → n < length s → single_len (drop 1 s) false ≡ Some n → IsSingle (take (n + 1) s)
single_after s n q l h = record { rest = take n (drop 1 s); tail = single_sound (drop 1 s) false n h; whole = whole s n 39 q l }

pub single_within : (s : List ℕ) (n : ℕ) → single_len s false ≡ Some n → n ≤ length s
single_within s n h =
    let c = single_complete (single_sound s false n h) (drop n s) in
    let d : single_len s false ≡ Some (length (take n s)) = rw (take-append-drop n s) at c in
    let g : n ≡ length (take n s) = some_same (sym h ∙ d) in
    omega (arith, g, length-take n s)
