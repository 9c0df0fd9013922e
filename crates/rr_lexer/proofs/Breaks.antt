-- The scan of a piece that breaks off finds what is left out, and nothing else.
use Rattle.std.proofs.Common.{ℕ, ◌≡◌, ◌==◌, ◌≢◌, ◌⊎◌, inl, inr, ◌||◌, Bool, true, false, cond, List, [], ◌∷◌, refl, sym, ◌∙◌}
use Rattle.std.proofs.lemmas.Bool.{ne_eqb, eqb-true, eqb-false, false≢true}
use Rattle.rr_lexer.specs.Scans.{breaks_off}
use Rattle.rr_lexer.specs.Texts.{is_escape}
use Rattle.rr_lexer.specs.Reasons.{BreaksOff}
use Rattle.rr_lexer.specs.Reasons.BreaksOff.{escape_left_out, line_left_out, variable_left_out, plain, hash, escape, returned}
use Rattle.rr_lexer.specs.declared.texts.Mode.{Mode}
use Rattle.rr_lexer.specs.declared.texts.Mode.TheVariants.{Plain, Escaped, Hash, Returned}
use Rattle.rr_lexer.proofs.Heads.{chosen, or_false, or_true}
use Rattle.rr_lexer.proofs.Pieces.{return_refused}

abbrev BreaksFrom : Mode → List ℕ → Type 0
BreaksFrom Plain w = BreaksOff w
BreaksFrom Escaped w = BreaksOff (92 ∷ w)
BreaksFrom Hash w = BreaksOff (35 ∷ w)
BreaksFrom Returned w = BreaksOff (92 ∷ 13 ∷ w)

abbrev hash_step : ℕ → List ℕ → Bool
hash_step b bs = cond (b == 35) (breaks_off bs Hash) (breaks_off bs Plain)

abbrev escape_step : ℕ → List ℕ → Bool
escape_step b bs = cond (b == 92) (breaks_off bs Escaped) (hash_step b bs)

abbrev plain_step : ℕ → List ℕ → Bool
plain_step b bs = cond (b == 34) false (escape_step b bs)

record Recursive (bs : List ℕ) : Type 0 where
  on : (mode : Mode) → breaks_off bs mode ≡ true → BreaksFrom mode bs

step_sound : (b : ℕ) (bs : List ℕ) → Recursive bs → plain_step b bs ≡ true → BreaksOff (b ∷ bs)
step_sound b bs r h = elim (chosen (b == 34) false (escape_step b bs) true h) [
  | inl q ↦ absurd (false≢true q.1)
  | inr q ↦ elim (chosen (b == 92) (breaks_off bs Escaped) (hash_step b bs) true q.1) [
    | inl s ↦ rw (eqb-true b 92 s.0) (r.on Escaped s.1)
    | inr s ↦ elim (chosen (b == 35) (breaks_off bs Hash) (breaks_off bs Plain) true s.1) [
      | inl t ↦ rw (eqb-true b 35 t.0) (r.on Hash t.1)
      | inr t ↦ plain (eqb-false b 34 q.0) (eqb-false b 92 s.0) (eqb-false b 35 t.0) (r.on Plain t.1)
    ]
  ]
]

sign : (b : ℕ) → (b == 64 || b == 36) ≡ true → (b ≡ 64) ⊎ (b ≡ 36)
sign b h = elim (or_true (b == 64) (b == 36) h) [ inl e ↦ inl (eqb-true b 64 e) | inr e ↦ inr (eqb-true b 36 e) ]

pub breaks_sound : (s : List ℕ) (mode : Mode) → breaks_off s mode ≡ true → BreaksFrom mode s
breaks_sound [] mode h = absurd (false≢true h)
breaks_sound (b ∷ bs) Plain h = step_sound b bs (record { on = λ m g. breaks_sound bs m g }) h
breaks_sound (b ∷ bs) Escaped h = elim (chosen (is_escape b) (breaks_off bs Plain) (cond (b == 13) (breaks_off bs Returned) true) true h) [
  | inl q ↦ escape q.0 (breaks_sound bs Plain q.1)
  | inr q ↦ elim (chosen (b == 13) (breaks_off bs Returned) true true q.1) [
    | inl t ↦ rw (eqb-true b 13 t.0) (breaks_sound bs Returned t.1)
    | inr t ↦ escape_left_out q.0 (eqb-false b 13 t.0)
  ]
]
breaks_sound (b ∷ bs) Hash h = elim (chosen (b == 123) false (cond (b == 64 || b == 36) true (plain_step b bs)) true h) [
  | inl q ↦ absurd (false≢true q.1)
  | inr q ↦ elim (chosen (b == 64 || b == 36) true (plain_step b bs) true q.1) [
    | inl t ↦ variable_left_out (sign b t.0)
    | inr t ↦ let o = or_false (b == 64) (b == 36) t.0 in
        hash (eqb-false b 123 q.0) (eqb-false b 64 o.0) (eqb-false b 36 o.1) (step_sound b bs (record { on = λ m g. breaks_sound bs m g }) t.1)
  ]
]
breaks_sound (b ∷ bs) Returned h = elim (chosen (b == 10) true (plain_step b bs) true h) [
  | inl q ↦ rw (eqb-true b 10 q.0) line_left_out
  | inr q ↦ returned (eqb-false b 10 q.0) (step_sound b bs (record { on = λ m g. breaks_sound bs m g }) q.1)
]

sign_found : (b : ℕ) (bs : List ℕ) → (b ≡ 64) ⊎ (b ≡ 36) → breaks_off (b ∷ bs) Hash ≡ true
sign_found b bs (inl e) = rw e refl
sign_found b bs (inr e) = rw e refl

after_hash : (b : ℕ) (bs : List ℕ) → b ≢ 123 → b ≢ 64 → b ≢ 36 → breaks_off (b ∷ bs) Hash ≡ breaks_off (b ∷ bs) Plain
after_hash b bs p q r = rw (ne_eqb b 123 p, ne_eqb b 64 q, ne_eqb b 36 r) refl

after_return : (b : ℕ) (bs : List ℕ) → b ≢ 10 → breaks_off (b ∷ bs) Returned ≡ breaks_off (b ∷ bs) Plain
after_return b bs p = rw (ne_eqb b 10 p) refl

pub breaks_complete : {w : List ℕ} → BreaksOff w → breaks_off w Plain ≡ true
breaks_complete (escape_left_out {b} {rest} f p) = rw (f, ne_eqb b 13 p) refl
breaks_complete (line_left_out {rest}) = rw return_refused refl
breaks_complete (variable_left_out {b} {rest} e) = sign_found b rest e
breaks_complete (plain {b} {rest} p q r t) = rw (ne_eqb b 34 p, ne_eqb b 92 q, ne_eqb b 35 r) (breaks_complete t)
breaks_complete (hash {b} {rest} p q r t) = after_hash b rest p q r ∙ breaks_complete t
breaks_complete (escape {b} {rest} f t) = rw f (breaks_complete t)
breaks_complete (returned {b} {rest} p t) = rw return_refused (after_return b rest p ∙ breaks_complete t)

pub breaks_not : (s : List ℕ) → breaks_off s Plain ≡ false → BreaksOff s → ⊥
breaks_not s h t = false≢true (sym h ∙ breaks_complete t)
