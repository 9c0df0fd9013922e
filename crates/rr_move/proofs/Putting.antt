-- Objects that are put back into their slots, from the last to the first.
use Rattle.std.proofs.Common.{◌≡◌, ◌⊎◌, inl, inr, ◌<◌, ◌≤◌, ℕ, ◌+◌, nat_eq, List, length, length-set, slice_get, slice_set, Some, sym, ap, ◌∙◌, subst, refl, arith}
use Rattle.std.proofs.lemmas.Option.{same_Some, slice_get_within}
use Rattle.std.specs.List.{IsDistinct}
use Rattle.rr_space.specs.Graph.{IsAt}
use Rattle.rr_space.specs.Moves.{IsPutAt}
use Rattle.rr_space.proofs.Keeping.{set_same, set_other}
use Rattle.rr_space.proofs.Renaming.{contains_at}
use Rattle.rr_share.proofs.Places.{one_place}

-- the places that the names from the j-th on name have these elements, and all others have what they had
pub record IsPutFrom {A : Type 0} (names : List ℕ) (xs : List A) (j : ℕ) (old new : List A) : Type 0 where
  pub size : length new ≡ length old
  pub named : (n i : ℕ) (x : A) → j ≤ i → IsAt names n i → slice_get xs i ≡ Some x → slice_get new n ≡ Some x
  pub others : (n : ℕ) → ((i : ℕ) → j ≤ i → IsAt names n i → ⊥) → slice_get new n ≡ slice_get old n

pub put_none : {A : Type 0} (names : List ℕ) (xs : List A) (j : ℕ) (old : List A) → j ≡ length names → IsPutFrom names xs j old old
put_none names xs j old all = record {
  size = refl;
  named = λ n i x le at is. absurd (let lt = slice_get_within names i n at in let z : ⊥ = omega (arith, lt, le, all) in z);
  others = λ n out. refl;
}

pub put_next : {A : Type 0} (names : List ℕ) (xs : List A) (k : ℕ) (old mid : List A) (n : ℕ) (x : A) → IsDistinct nat_eq names → IsAt names n k → slice_get xs k ≡ Some x → n < length old
    → IsPutFrom names xs (k + 1) old mid → IsPutFrom names xs k old (slice_set mid n x)
put_next {A} names xs k old mid n x distinct at is lt put = record {
  size = length-set mid n x ∙ put.size;
  named = λ m i y le m_at y_is. by m i y m_at y_is (which i le);
  others = λ m out. set_other mid n m x (λ e. out k (omega arith) (subst (λ a. IsAt names a k) e at)) ∙ put.others m (λ i le m_at. out i (omega (arith, le)) m_at);
}
  where
    which : (i : ℕ) → k ≤ i → (i ≡ k) ⊎ (k + 1 ≤ i)
    which i le = grind (arith, le)

    by : (m i : ℕ) (y : A) → IsAt names m i → slice_get xs i ≡ Some y → ((i ≡ k) ⊎ (k + 1 ≤ i)) → slice_get (slice_set mid n x) m ≡ Some y
    by m i y m_at y_is (inl e) =
        let same : n ≡ m = same_Some n m (sym at ∙ subst (λ j. slice_get names j ≡ Some m) e m_at) in
        let value : x ≡ y = same_Some x y (sym is ∙ subst (λ j. slice_get xs j ≡ Some y) e y_is) in
        subst (λ a. slice_get (slice_set mid n x) a ≡ Some y) same (set_same mid n x (omega (arith, lt, put.size)) ∙ ap Some value)
    by m i y m_at y_is (inr later) =
        set_other mid n m x (λ e. let z = one_place names m k i distinct (subst (λ a. IsAt names a k) e at) m_at in let w : ⊥ = omega (arith, z, later) in w) ∙ put.named m i y later m_at y_is

pub put_all_named : {A : Type 0} (names : List ℕ) (xs old new : List A) → IsPutFrom names xs 0 old new → IsPutAt names xs old new
put_all_named names xs old new put = record {
  size = put.size;
  named = λ n i x at is. put.named n i x (omega arith) at is;
  others = λ n out. put.others n (λ i le at. out (contains_at names i n at));
}

-- what stands where nothing was put yet is as it was
pub not_yet : {A : Type 0} (names : List ℕ) (xs : List A) (k : ℕ) (old mid : List A) (n : ℕ) → IsDistinct nat_eq names → IsAt names n k → IsPutFrom names xs (k + 1) old mid → slice_get mid n ≡ slice_get old n
not_yet names xs k old mid n distinct at put = put.others n (λ i le n_at. let z = one_place names n k i distinct at n_at in let w : ⊥ = omega (arith, z, le) in w)
