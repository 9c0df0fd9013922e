-- The values of arrays and the halves of the pairs of hashes, as they are gathered from the front.
use Rattle.std.proofs.Common.{◌≡◌, ◌∙◌, ◌<◌, ◌≤◌, ◌+◌, ◌*◌, ℕ, zero, suc, List, [], ◌∷◌, ◌++◌, drop, length, map, refl, sym, ap, arith}
use Rattle.rr_space.specs.Graph.{Label, Value}
use Rattle.rr_space.specs.Tables.{Table}
use Rattle.rr_space.specs.Labels.{triples_at}
use Rattle.rr_space.specs.declared.refer.Ref.{Ref}
use Rattle.rr_text.specs.Keys.{pairs_in}
use Rattle.rr_text.specs.Comparing.{value_in, values_in}
use Rattle.rr_builtin.specs.Acts.{element_at}
use Rattle.rr_builtin.specs.Elements.{elements_of, half_of}
use Rattle.rr_builtin.proofs.Gathering.{append_nil, append_three}

-- the first values that an object leads to
abbrev pub listed : Table → Ref → ℕ → List Value
listed t v zero = []
listed t v (suc n) = listed t v n ++ element_at t v n ∷ []

-- every other of the values that an object leads to, from the first or the second on
abbrev pub halves : Table → Ref → ℕ → ℕ → List Value
halves t v d zero = []
halves t v d (suc n) = halves t v d n ++ element_at t v (2 * n + d) ∷ []

values_next : (ts : List (Label × Value)) (n : ℕ) → n < length ts → drop n (values_in ts) ≡ value_in ts n ∷ drop (suc n) (values_in ts)
values_next [] n lt = absurd (let no : ⊥ = omega (arith, lt) in no)
values_next (t ∷ ts) zero lt = refl
values_next (t ∷ ts) (suc n) lt = values_next ts n (omega (arith, lt))

values_end : (ts : List (Label × Value)) → drop (length ts) (values_in ts) ≡ []
values_end [] = refl
values_end (t ∷ ts) = values_end ts

-- and those behind them
pub listed_front : (t : Table) (v : Ref) (n : ℕ) → n ≤ length (triples_at t v) → listed t v n ++ drop n (elements_of t v) ≡ elements_of t v
listed_front t v zero le = refl
listed_front t v (suc n) le =
    append_three (listed t v n) (element_at t v n ∷ []) (drop (suc n) (elements_of t v))
    ∙ ap (λ xs. listed t v n ++ xs) (sym (values_next (triples_at t v) n (omega (arith, le))))
    ∙ listed_front t v n (omega (arith, le))

-- all of them are the elements
pub listed_all : (t : Table) (v : Ref) → listed t v (length (triples_at t v)) ≡ elements_of t v
listed_all t v =
    let n = length (triples_at t v) in
    append_nil (listed t v n) ∙ ap (λ xs. listed t v n ++ xs) (sym (values_end (triples_at t v))) ∙ listed_front t v n (omega arith)

pub pairs_next : (ts : List (Label × Value)) (n : ℕ) → 2 * n + 1 < length ts → drop n (pairs_in ts) ≡ (value_in ts (2 * n), value_in ts (2 * n + 1)) ∷ drop (suc n) (pairs_in ts)
pairs_next [] n lt = absurd (let no : ⊥ = omega (arith, lt) in no)
pairs_next (t ∷ []) n lt = absurd (let no : ⊥ = omega (arith, lt) in no)
pairs_next (k ∷ v ∷ ts) zero lt = refl
pairs_next (k ∷ v ∷ ts) (suc n) lt =
    pairs_next ts n (omega (arith, lt))
    ∙ ap (λ i. (value_in (k ∷ v ∷ ts) i, value_in (k ∷ v ∷ ts) (suc (suc (2 * n + 1)))) ∷ drop (suc (suc n)) (pairs_in (k ∷ v ∷ ts))) (let z : suc (suc (2 * n)) ≡ 2 * suc n = omega arith in z)
    ∙ ap (λ i. (value_in (k ∷ v ∷ ts) (2 * suc n), value_in (k ∷ v ∷ ts) i) ∷ drop (suc (suc n)) (pairs_in (k ∷ v ∷ ts))) (let z : suc (suc (2 * n + 1)) ≡ 2 * suc n + 1 = omega arith in z)

pub pairs_end : (ts : List (Label × Value)) (n : ℕ) → length ts ≤ 2 * n + 1 → drop n (pairs_in ts) ≡ []
pairs_end [] zero le = refl
pairs_end [] (suc n) le = refl
pairs_end (t ∷ []) zero le = refl
pairs_end (t ∷ []) (suc n) le = refl
pairs_end (k ∷ v ∷ ts) zero le = absurd (let no : ⊥ = omega (arith, le) in no)
pairs_end (k ∷ v ∷ ts) (suc n) le = pairs_end ts n (omega (arith, le))

-- the half of a pair by its place among the values
half_is : (ts : List (Label × Value)) (d n : ℕ) → d < 2 → half_of d (value_in ts (2 * n), value_in ts (2 * n + 1)) ≡ value_in ts (2 * n + d)
half_is ts zero n lt = ap (value_in ts) (let z : 2 * n ≡ 2 * n + 0 = omega arith in z)
half_is ts (suc zero) n lt = refl
half_is ts (suc (suc d)) n lt = absurd (let no : ⊥ = omega (arith, lt) in no)

pub map_drop : {A B : Type 0} (f : A → B) (xs : List A) (n : ℕ) → map f (drop n xs) ≡ drop n (map f xs)
map_drop f xs zero = refl
map_drop f [] (suc n) = refl
map_drop f (x ∷ xs) (suc n) = map_drop f xs n

module _ (t : Table) (v : Ref) (d : ℕ) (lt : d < 2) where
  abbrev those : List Value
  those = map (half_of d) (pairs_in (triples_at t v))

  halves_next : (n : ℕ) → 2 * n + 1 < length (triples_at t v) → element_at t v (2 * n + d) ∷ drop (suc n) those ≡ drop n those
  halves_next n le =
      ap (λ x. x ∷ drop (suc n) those) (sym (half_is (triples_at t v) d n lt))
      ∙ ap (λ xs. half_of d (element_at t v (2 * n), element_at t v (2 * n + 1)) ∷ xs) (sym (map_drop (half_of d) (pairs_in (triples_at t v)) (suc n)))
      ∙ ap (λ ps. map (half_of d) ps) (sym (pairs_next (triples_at t v) n le))
      ∙ map_drop (half_of d) (pairs_in (triples_at t v)) n

  halves_front : (n : ℕ) → 2 * n ≤ length (triples_at t v) → halves t v d n ++ drop n those ≡ those
  halves_front zero le = refl
  halves_front (suc n) le =
      append_three (halves t v d n) (element_at t v (2 * n + d) ∷ []) (drop (suc n) those)
      ∙ ap (λ xs. halves t v d n ++ xs) (halves_next n (omega (arith, le)))
      ∙ halves_front n (omega (arith, le))

  -- all of them are the halves of the pairs
  pub halves_all : (n : ℕ) → 2 * n ≤ length (triples_at t v) → length (triples_at t v) ≤ 2 * n + 1 → halves t v d n ≡ those
  halves_all n low high =
      append_nil (halves t v d n)
      ∙ ap (λ xs. halves t v d n ++ xs) (ap (map (half_of d)) (sym (pairs_end (triples_at t v) n high)) ∙ map_drop (half_of d) (pairs_in (triples_at t v)) n)
      ∙ halves_front n low
