-- The first place at which a test passes.
use Rattle.std.proofs.Common.{◌≡◌, ℕ, zero, suc, ◌+◌, ◌<◌, ◌≤◌, ◌∙◌, Bool, List, [], ◌∷◌, length, get_or, drop, if◌then◌else◌, Some, None, refl, ap, arith}
use Rattle.std.proofs.Math.Seq.{drop-cons}
use Rattle.std.specs.List.{position_from}

-- one place further
pub place_next : {X : Type 0} (test : X → Bool) (xs : List X) (i : ℕ) (d : X) → i < length xs
    → position_from test i (drop i xs) ≡ (if test (get_or xs i d) then Some i else position_from test (i + 1) (drop (i + 1) xs))
place_next test xs i d lt =
    let e : suc i ≡ i + 1 = omega arith in
    ap (position_from test i) (drop-cons xs i d lt)
    ∙ ap (λ (k : ℕ). if test (get_or xs i d) then Some i else position_from test (i + 1) (drop k xs)) e

drop_past : {X : Type 0} (xs : List X) (i : ℕ) → length xs ≤ i → drop i xs ≡ []
drop_past [] zero h = refl
drop_past [] (suc i) h = refl
drop_past (x ∷ xs) zero h = absurd (omega arith)
drop_past (x ∷ xs) (suc i) h = drop_past xs i (omega arith)

-- behind the last place there is none
pub place_past : {X : Type 0} (test : X → Bool) (xs : List X) (i : ℕ) → length xs ≤ i → position_from test i (drop i xs) ≡ None
place_past test xs i h = ap (position_from test i) (drop_past xs i h)
