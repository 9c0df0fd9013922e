-- The values and the pairs of objects, from the front.
use Rattle.std.proofs.Common.{◌≡◌, ◌∙◌, ◌<◌, ◌≤◌, ◌+◌, ◌*◌, ℕ, zero, suc, List, [], ◌∷◌, drop, length, refl, ap, arith}
use Rattle.rr_space.specs.Graph.{Label, Value}
use Rattle.rr_text.specs.Keys.{pairs_in}
use Rattle.rr_text.specs.Comparing.{value_in, values_in}

pub values_next : (ts : List (Label × Value)) (n : ℕ) → n < length ts → drop n (values_in ts) ≡ value_in ts n ∷ drop (n + 1) (values_in ts)
values_next [] n lt = absurd (let no : ⊥ = omega (arith, lt) in no)
values_next (t ∷ ts) zero lt = refl
values_next (t ∷ ts) (suc n) lt = values_next ts n (omega (arith, lt)) ∙ ap (λ k. value_in ts n ∷ drop k (values_in (t ∷ ts))) (let z : suc (n + 1) ≡ suc n + 1 = omega arith in z)

pub values_end : (ts : List (Label × Value)) (n : ℕ) → length ts ≤ n → drop n (values_in ts) ≡ []
values_end [] zero le = refl
values_end [] (suc n) le = refl
values_end (t ∷ ts) zero le = absurd (let no : ⊥ = omega (arith, le) in no)
values_end (t ∷ ts) (suc n) le = values_end ts n (omega (arith, le))

pub pairs_next : (ts : List (Label × Value)) (n : ℕ) → 2 * n + 1 < length ts → drop n (pairs_in ts) ≡ (value_in ts (2 * n), value_in ts (2 * n + 1)) ∷ drop (n + 1) (pairs_in ts)
pairs_next [] n lt = absurd (let no : ⊥ = omega (arith, lt) in no)
pairs_next (t ∷ []) n lt = absurd (let no : ⊥ = omega (arith, lt) in no)
pairs_next (k ∷ v ∷ ts) zero lt = refl
pairs_next (k ∷ v ∷ ts) (suc n) lt =
    pairs_next ts n (omega (arith, lt))
    ∙ ap (λ j. (value_in ts (2 * n), value_in ts (2 * n + 1)) ∷ drop j (pairs_in (k ∷ v ∷ ts))) (let z : suc (n + 1) ≡ suc n + 1 = omega arith in z)
    ∙ ap (λ i. (value_in (k ∷ v ∷ ts) i, value_in (k ∷ v ∷ ts) (suc (suc (2 * n + 1)))) ∷ drop (suc n + 1) (pairs_in (k ∷ v ∷ ts))) (let z : suc (suc (2 * n)) ≡ 2 * suc n = omega arith in z)
    ∙ ap (λ i. (value_in (k ∷ v ∷ ts) (2 * suc n), value_in (k ∷ v ∷ ts) i) ∷ drop (suc n + 1) (pairs_in (k ∷ v ∷ ts))) (let z : suc (suc (2 * n + 1)) ≡ 2 * suc n + 1 = omega arith in z)

pub pairs_end : (ts : List (Label × Value)) (n : ℕ) → length ts ≤ 2 * n + 1 → drop n (pairs_in ts) ≡ []
pairs_end [] zero le = refl
pairs_end [] (suc n) le = refl
pairs_end (t ∷ []) zero le = refl
pairs_end (t ∷ []) (suc n) le = refl
pairs_end (k ∷ v ∷ ts) zero le = absurd (let no : ⊥ = omega (arith, le) in no)
pairs_end (k ∷ v ∷ ts) (suc n) le = pairs_end ts n (omega (arith, le))
