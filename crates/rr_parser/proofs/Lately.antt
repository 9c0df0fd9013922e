-- Names that came before are found by their number.
use Rattle.std.proofs.Common.{◌≡◌, ℕ, arith, zero, suc, ◌+◌, not, ◌||◌, Bool, true, false, cond, List, [], ◌∷◌, map, refl, sym, ap, ◌∙◌}
use Rattle.std.specs.Prelude.{bytes_eq, slice_get, Some}
use Rattle.std.specs.Borrow.{Bor}
use Rattle.std.specs.List.{list_any, position_or_len, AllByRecursion, IsDistinct}
use Rattle.std.proofs.lemmas.Slice.Eq.{bytes_eq-Decides}
use Rattle.rr_parser.proofs.Numbers.{now}

abbrev same : Bor (List ℕ) → Bor (List ℕ) → Bool
same a b = bytes_eq a.now b.now

-- a name that is told from this one
apart_from : (b : Bool) (xs ys : List ℕ) → bytes_eq xs ys ≡ false → bytes_eq ys xs ≡ b → b ≡ false
apart_from false xs ys e f = refl
apart_from true xs ys e f = let g : bytes_eq xs ys ≡ true = (bytes_eq-Decides xs ys).1 (sym ((bytes_eq-Decides ys xs).0 f)) in absurd cc

apart_at : (x k : Bor (List ℕ)) (ks : List (Bor (List ℕ))) (i : ℕ) → AllByRecursion (λ y. same x y ≡ false) ks → slice_get ks i ≡ Some k → same x k ≡ false
apart_at x k [] i a e = absurd cc
apart_at x k (y ∷ ks) zero a e = let h : same x y ≡ false = a.0 in cc
apart_at x k (y ∷ ks) (suc i) a e = apart_at x k ks i a.1 e

same_name : (name : List ℕ) → bytes_eq name name ≡ true
same_name name = (bytes_eq-Decides name name).1 refl

first_place : (b : Bool) (n : ℕ) → b ≡ true → cond (not b) (1 + n) 0 ≡ 0
first_place true n e = refl
first_place false n e = absurd cc

later_place : (b : Bool) (n : ℕ) → b ≡ false → cond (not b) (1 + n) 0 ≡ suc n
later_place true n e = absurd cc
later_place false n e = omega arith

-- a name is at the place of the one that is the same
pub place_known : (name : List ℕ) (ks : List (Bor (List ℕ))) (i : ℕ) (k : Bor (List ℕ)) → IsDistinct same ks → slice_get ks i ≡ Some k → name ≡ k.now → position_or_len (bytes_eq name) (map now ks) ≡ i
unfolding IsDistinct
place_known name [] i k d e f = absurd cc
place_known name (x ∷ ks) zero k d e f =
    let g : x.now ≡ name = cc in first_place (bytes_eq name x.now) (position_or_len (bytes_eq name) (map now ks)) (ap (bytes_eq name) g ∙ same_name name)
place_known name (x ∷ ks) (suc i) k d e f =
    let g : bytes_eq x.now name ≡ false = ap (bytes_eq x.now) f ∙ apart_at x k ks i d.0 e in
    later_place (bytes_eq name x.now) (position_or_len (bytes_eq name) (map now ks)) (apart_from (bytes_eq name x.now) x.now name g refl) ∙ ap suc (place_known name ks i k d.1 e f)

any_here : (b c : Bool) → b ≡ true → (b || c) ≡ true
any_here true c e = refl
any_here false c e = absurd cc

any_later : (b c : Bool) → c ≡ true → (b || c) ≡ true
any_later true c e = refl
any_later false c e = e

pub any_known : (name : List ℕ) (ks : List (Bor (List ℕ))) (i : ℕ) (k : Bor (List ℕ)) → slice_get ks i ≡ Some k → name ≡ k.now → list_any (bytes_eq name) (map now ks) ≡ true
any_known name [] i k e f = absurd cc
any_known name (x ∷ ks) zero k e f = let g : x.now ≡ name = cc in any_here (bytes_eq name x.now) (list_any (bytes_eq name) (map now ks)) (ap (bytes_eq name) g ∙ same_name name)
any_known name (x ∷ ks) (suc i) k e f = any_later (bytes_eq name x.now) (list_any (bytes_eq name) (map now ks)) (any_known name ks i k e f)
