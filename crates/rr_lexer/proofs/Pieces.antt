-- The scan of a piece finds its end, and nothing else.
use Rattle.std.proofs.Common.{ℕ, suc, ◌+◌, ◌<◌, ◌≤◌, ◌≡◌, ◌==◌, ◌≢◌, inl, inr, ◌||◌, Bool, true, false, cond, List, [], ◌∷◌, ◌++◌, length, take, drop, get_or, refl, ap, sym, ◌∙◌, arith, Option, Some, None, one-add, length-take}
use Rattle.std.proofs.lemmas.List.{take-append-drop}
use Rattle.std.proofs.lemmas.Bool.{ne_eqb, eqb-true, eqb-false}
use Rattle.rr_lexer.specs.Bytes.{class_of}
use Rattle.rr_lexer.specs.Scans.{piece, further}
use Rattle.rr_lexer.specs.Texts.{is_escape, IsPiece, IsPieceAfter}
use Rattle.rr_lexer.specs.Texts.IsPiece.{quote, opens, plain, hash, escape, returned}
use Rattle.rr_lexer.specs.declared.texts.Mode.{Mode}
use Rattle.rr_lexer.specs.declared.texts.Mode.TheVariants.{Plain, Escaped, Hash, Returned}
use Rattle.rr_lexer.proofs.Heads.{chosen, some_same, or_false, cut, whole}

further_some : (x : Option (Bool × ℕ)) (e : Bool) (n : ℕ) → further 1 x ≡ Some (e, n) → (k : ℕ) × (x ≡ Some (e, k)) × (n ≡ suc k)
further_some None e n h = absurd cc
further_some (Some p) e n h =
    let both : (p.0, 1 + p.1) ≡ (e, n) = some_same h in
    (p.1, ap (λ x. Some (x.0, p.1)) both, omega (arith, ap (λ x. x.1) both))

abbrev PieceFrom : Mode → Bool → List ℕ → Type 0
PieceFrom Plain e w = IsPiece e w
PieceFrom Escaped e w = IsPiece e (92 ∷ w)
PieceFrom Hash e w = IsPiece e (35 ∷ w)
PieceFrom Returned e w = IsPiece e (92 ∷ 13 ∷ w)

-- what a byte that is neither escaped nor refused behind `#` does
abbrev hash_step : ℕ → List ℕ → Option (Bool × ℕ)
hash_step b bs = cond (b == 35) (further 1 (piece bs Hash)) (further 1 (piece bs Plain))

abbrev escape_step : ℕ → List ℕ → Option (Bool × ℕ)
escape_step b bs = cond (b == 92) (further 1 (piece bs Escaped)) (hash_step b bs)

abbrev plain_step : ℕ → List ℕ → Option (Bool × ℕ)
plain_step b bs = cond (b == 34) (Some (false, 1)) (escape_step b bs)

record Recursive (bs : List ℕ) : Type 0 where
  on : (mode : Mode) (e : Bool) (k : ℕ) → piece bs mode ≡ Some (e, k) → PieceFrom mode e (take k bs)

abbrev Found : ℕ → List ℕ → Bool → ℕ → Type 0
Found b bs e n = (k : ℕ) × (n ≡ suc k) × IsPiece e (b ∷ take k bs)

at_quote : (e : Bool) (n : ℕ) (b : ℕ) (bs : List ℕ) → b ≡ 34 → ◌≡◌ {A = Option (Bool × ℕ)} (Some (false, 1)) (Some (e, n)) → Found b bs e n
at_quote e n b bs q h =
    let both : (false, 1) ≡ (e, n) = some_same h in
    (0, sym (ap (λ x. x.1) both), rw (q, ← ap (λ x. x.0) both) quote)

step_sound : (b : ℕ) (bs : List ℕ) (e : Bool) (n : ℕ) → Recursive bs → plain_step b bs ≡ Some (e, n) → Found b bs e n
step_sound b bs e n r h = elim (chosen (b == 34) (Some (false, 1)) (escape_step b bs) (Some (e, n)) h) [
  | inl q ↦ at_quote e n b bs (eqb-true b 34 q.0) q.1
  | inr q ↦ elim (chosen (b == 92) (further 1 (piece bs Escaped)) (hash_step b bs) (Some (e, n)) q.1) [
    | inl s ↦ let f = further_some (piece bs Escaped) e n s.1 in (f.0, f.2, rw (eqb-true b 92 s.0) (r.on Escaped e f.0 f.1))
    | inr s ↦ elim (chosen (b == 35) (further 1 (piece bs Hash)) (further 1 (piece bs Plain)) (Some (e, n)) s.1) [
      | inl t ↦ let f = further_some (piece bs Hash) e n t.1 in (f.0, f.2, rw (eqb-true b 35 t.0) (r.on Hash e f.0 f.1))
      | inr t ↦ let f = further_some (piece bs Plain) e n t.1 in (f.0, f.2, plain (eqb-false b 34 q.0) (eqb-false b 92 s.0) (eqb-false b 35 t.0) (r.on Plain e f.0 f.1))
    ]
  ]
]

at_brace : (e : Bool) (n : ℕ) (b : ℕ) (bs : List ℕ) → b ≡ 123 → ◌≡◌ {A = Option (Bool × ℕ)} (Some (true, 1)) (Some (e, n)) → IsPiece e (35 ∷ take n (b ∷ bs))
at_brace e n b bs q h =
    let both : (true, 1) ≡ (e, n) = some_same h in
    rw (q, ← ap (λ x. x.0) both, ← ap (λ x. x.1) both) opens

pub piece_sound : (s : List ℕ) (mode : Mode) (e : Bool) (n : ℕ) → piece s mode ≡ Some (e, n) → PieceFrom mode e (take n s)
piece_sound [] mode e n h = absurd cc
piece_sound (b ∷ bs) Plain e n h =
    let f = step_sound b bs e n (record { on = λ m d k g. piece_sound bs m d k g }) h in rw f.1 f.2
piece_sound (b ∷ bs) Escaped e n h = elim (chosen (is_escape b) (further 1 (piece bs Plain)) (cond (b == 13) (further 1 (piece bs Returned)) None) (Some (e, n)) h) [
  | inl q ↦ let f = further_some (piece bs Plain) e n q.1 in rw f.2 (escape q.0 (piece_sound bs Plain e f.0 f.1))
  | inr q ↦ elim (chosen (b == 13) (further 1 (piece bs Returned)) None (Some (e, n)) q.1) [
    | inl t ↦ let f = further_some (piece bs Returned) e n t.1 in rw (f.2, eqb-true b 13 t.0) (piece_sound bs Returned e f.0 f.1)
    | inr t ↦ absurd (let g = t.1 in cc)
  ]
]
piece_sound (b ∷ bs) Hash e n h = elim (chosen (b == 123) (Some (true, 1)) (cond (b == 64 || b == 36) None (plain_step b bs)) (Some (e, n)) h) [
  | inl q ↦ at_brace e n b bs (eqb-true b 123 q.0) q.1
  | inr q ↦ elim (chosen (b == 64 || b == 36) None (plain_step b bs) (Some (e, n)) q.1) [
    | inl t ↦ absurd (let g = t.1 in cc)
    | inr t ↦ let f = step_sound b bs e n (record { on = λ m d k g. piece_sound bs m d k g }) t.1 in
        let o = or_false (b == 64) (b == 36) t.0 in
        rw f.1 (hash (eqb-false b 123 q.0) (eqb-false b 64 o.0) (eqb-false b 36 o.1) f.2)
  ]
]
piece_sound (b ∷ bs) Returned e n h = elim (chosen (b == 10) None (plain_step b bs) (Some (e, n)) h) [
  | inl q ↦ absurd (let g = q.1 in cc)
  | inr q ↦ let f = step_sound b bs e n (record { on = λ m d k g. piece_sound bs m d k g }) q.1 in
      rw f.1 (returned (eqb-false b 10 q.0) f.2)
]

-- completeness, whatever follows
after_hash : (b : ℕ) (bs : List ℕ) → b ≢ 123 → b ≢ 64 → b ≢ 36 → piece (b ∷ bs) Hash ≡ piece (b ∷ bs) Plain
after_hash b bs p q r = rw (ne_eqb b 123 p, ne_eqb b 64 q, ne_eqb b 36 r) refl

after_return : (b : ℕ) (bs : List ℕ) → b ≢ 10 → piece (b ∷ bs) Returned ≡ piece (b ∷ bs) Plain
after_return b bs p = rw (ne_eqb b 10 p) refl

pub return_refused : is_escape 13 ≡ false
unfolding is_escape class_of
return_refused = refl

more : (e : Bool) (n : ℕ) → further 1 (Some (e, n)) ≡ Some (e, suc n)
more e n = ap (λ k. Some (e, k)) (one-add n)

pub piece_complete : {e : Bool} {w : List ℕ} → IsPiece e w → (x : List ℕ) → piece (w ++ x) Plain ≡ Some (e, length w)
piece_complete quote x = refl
piece_complete opens x = refl
piece_complete (plain {e} {b} {rest} p q r t) x = rw (ne_eqb b 34 p, ne_eqb b 92 q, ne_eqb b 35 r, piece_complete t x) (more e (length rest))
piece_complete (hash {e} {b} {rest} p q r t) x = ap (λ y. further 1 y) (after_hash b (rest ++ x) p q r ∙ piece_complete t x) ∙ more e (length (b ∷ rest))
piece_complete (escape {e} {b} {rest} f t) x = rw (f, piece_complete t x) (ap (λ k. Some (e, k)) (omega arith))
piece_complete (returned {e} {b} {rest} p t) x =
    rw return_refused (ap (λ y. further 1 (further 1 y)) (after_return b (rest ++ x) p ∙ piece_complete t x) ∙ ap (λ k. Some (e, k)) (omega arith))

-- each piece behind the first byte is the one that the scan finds
pub same_piece : (s : List ℕ) (m b : ℕ) (e : Bool) (w : IsPieceAfter b e (take m s)) → piece (drop 1 s) Plain ≡ Some (e, length w.rest)
same_piece s m b e w = rw (cut s m b w.rest w.whole) (piece_complete w.piece (drop m s))

pub piece_after : (s : List ℕ) (n b : ℕ) (e : Bool) → get_or s 0 0 ≡ b → n < length s → piece (drop 1 s) Plain ≡ Some (e, n) → IsPieceAfter b e (take (n + 1) s)
piece_after s n b e q l h = record { rest = take n (drop 1 s); piece = piece_sound (drop 1 s) Plain e n h; whole = whole s n b q l }

-- a piece lies within what was scanned
pub piece_within : (s : List ℕ) (e : Bool) (n : ℕ) → piece s Plain ≡ Some (e, n) → n ≤ length s
piece_within s e n h =
    let c = piece_complete (piece_sound s Plain e n h) (drop n s) in
    let d : piece s Plain ≡ Some (e, length (take n s)) = rw (take-append-drop n s) at c in
    let g : (e, n) ≡ (e, length (take n s)) = some_same (sym h ∙ d) in
    omega (arith, ap (λ x. x.1) g, length-take n s)
