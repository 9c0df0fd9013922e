-- What `p` prints of values that were asked, which stand by turns with what they said.
use Rattle.std.proofs.Common.{◌≡◌, ◌∙◌, ◌<◌, ◌≤◌, ◌-◌, ℕ, ap, sym, refl, arith, append_assoc, get_or, take, drop, List, [], ◌∷◌, ◌++◌, length}
use Rattle.std.proofs.lemmas.List.{take_all}
use Rattle.rr_space.specs.Tables.{Table}
use Rattle.rr_space.specs.declared.refer.Ref.{Ref}
use Rattle.rr_space.specs.declared.refer.Ref.TheVariants as refs
use Rattle.rr_text.specs.Forms.{Names, spoken, within_text}
use Rattle.rr_text.specs.Walk.{Walked, Wrote}
use Rattle.rr_builtin.specs.Objects.{printed_text}
use Rattle.rr_eval.specs.Effects.{led}
use Rattle.rr_eval.specs.Tasks.{shown_by, texts_shown, values_shown, joined_texts}

-- a value and what it said come before the others
pub texts_next : (names : Names) (t : Table) (rest more : List Ref) (v said : Ref) (w : Walked) → rest ≡ v ∷ said ∷ more → w ≡ shown_by names t v said → texts_shown names t rest ≡ w ∷ texts_shown names t more
texts_next names t rest more v said w is text = ap (texts_shown names t) is ∙ ap (λ x. x ∷ texts_shown names t more) (sym text)

-- its text is written
pub joined_next : (piece bytes next : List ℕ) (all more : List Walked) → all ≡ Wrote bytes ∷ more → next ≡ piece ++ bytes → piece ++ joined_texts all ≡ next ++ joined_texts more
joined_next piece bytes next all more is push =
    ap (λ l. piece ++ joined_texts l) is ∙ sym (append_assoc piece bytes (joined_texts more)) ∙ ap (λ l. l ++ joined_texts more) (sym push)

-- the first value
pub values_next : (rest : List Ref) (v : Ref) → 2 ≤ length rest → v ≡ get_or rest 0 v → values_shown rest ≡ v ∷ values_shown (take (length rest - 2) (drop 2 rest))
values_next [] v some is = absurd (omega (arith, some))
values_next (x ∷ []) v some is = absurd (omega (arith, some))
values_next (x ∷ y ∷ more) v some is =
    let all : take (length (x ∷ y ∷ more) - 2) more ≡ more = take_all (length (x ∷ y ∷ more) - 2) more (omega arith) in
    ap (λ z. z ∷ values_shown more) (sym is) ∙ ap (λ l. v ∷ values_shown l) (sym all)

-- there is no value and what it said
pub texts_end : (names : Names) (t : Table) (rest : List Ref) → length rest < 2 → texts_shown names t rest ≡ []
texts_end names t [] lt = refl
texts_end names t (v ∷ []) lt = refl
texts_end names t (v ∷ w ∷ vs) lt = absurd (omega (arith, lt))

pub values_end : (rest : List Ref) → length rest < 2 → values_shown rest ≡ []
values_end [] lt = refl
values_end (v ∷ []) lt = refl
values_end (v ∷ w ∷ vs) lt = absurd (omega (arith, lt))

-- what was said, and not nil, is printed as it is
pub said_shown : (names : Names) (t : Table) (v said : Ref) → (said ≡ refs.Nil → ⊥) → within_text (λ s. s ++ 10 ∷ []) (printed_text names (led t (said ∷ [])) spoken t said) ≡ shown_by names t v said
said_shown names t v refs.Nil other = absurd (other refl)
said_shown names t v refs.False other = refl
said_shown names t v refs.True other = refl
said_shown names t v (refs.Int z) other = refl
said_shown names t v (refs.Symbol s) other = refl
said_shown names t v (refs.Class c) other = refl
said_shown names t v (refs.Ractor r) other = refl
said_shown names t v (refs.Local n) other = refl
said_shown names t v (refs.Shared p c) other = refl
