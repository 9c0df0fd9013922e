-- Lists of numbers by their places.
use Rattle.std.proofs.Common.{◌≡◌, ℕ, zero, suc, ◌+◌, ◌<◌, ◌≤◌, ◌≢◌, ◌↔◌, nat_eq, List, [], length, replicate, slice_get, Some, Contains, ◌⊎◌, ⊎_elim, inl, inr, sym, ap, ◌∙◌, subst, arith}
use Rattle.std.proofs.lemmas.Bool.{eqb-true}
use Rattle.std.proofs.lemmas.Cmp.{nat_eq_equiv}
use Rattle.std.proofs.lemmas.Option.{slice_get_within, same_Some, none-some}
use Rattle.std.proofs.lemmas.Map.Made.{length-le_from_is_member}
use Rattle.std.proofs.lemmas.Map.Views.{list_any-from_Contains}
use Rattle.std.specs.List.{IsDistinct}
use Rattle.indexmap.specs.IndexSet.{insert_key}
use Rattle.indexmap.proofs.CallerLemmas.{Contains-list_any}
use Rattle.std.proofs.lemmas.List.Elements.{Contains-append_cases}
pub use Rattle.rr_space.proofs.Paging.{one_place}
use Rattle.rr_share.specs.Search.{Adds}
use Rattle.rr_share.proofs.Searching.{contains_at, at_contains, below_cases, adds_as, adds_one, slice_get_left}

pub none_distinct : IsDistinct nat_eq []
unfolding IsDistinct
none_distinct = tt

pub same_or_not : (m n : ℕ) → (m ≡ n) ⊎ (m ≢ n)
same_or_not m n = grind arith

below_or_not : (i k : ℕ) → (i < k) ⊎ (k ≤ i)
below_or_not i k = grind arith

-- numbers that are each once and all in a list are at most as many
pub few_among : (xs ys : List ℕ) → IsDistinct nat_eq xs → ((n : ℕ) → Contains xs n → Contains ys n) → length xs ≤ length ys
few_among xs ys distinct within = length-le_from_is_member nat_eq_equiv xs ys distinct (λ q e. list_any-from_Contains nat_eq_equiv q ys (within q (Contains-list_any nat_eq eqb-true xs q e)))

-- a place of the first k + 1 is one of the first k, or the next
pub first_cases : (xs : List ℕ) (k n i m : ℕ) → slice_get xs k ≡ Some n → i < k + 1 → slice_get xs i ≡ Some m → (i < k) ⊎ (n ≡ m)
first_cases xs k n i m at lt here = ⊎_elim (λ w. inl w) (λ w. inr (same_Some n m (sym at ∙ ap (slice_get xs) (sym w) ∙ here))) (below_cases i k lt)

-- the first numbers of a list, added one after another
pub firsts_add : (xs : List ℕ) (k n : ℕ) (old mid new : List ℕ) → Adds (λ m. (i : ℕ) × (i < k) × (slice_get xs i ≡ Some m)) old mid → slice_get xs k ≡ Some n → new ≡ insert_key nat_eq mid n
    → Adds (λ m. (i : ℕ) × (i < k + 1) × (slice_get xs i ≡ Some m)) old new
firsts_add xs k n old mid new h at ins =
    adds_one (λ m. (i : ℕ) × (i < k) × (slice_get xs i ≡ Some m)) (λ m. (i : ℕ) × (i < k + 1) × (slice_get xs i ≡ Some m)) old mid new n h ins
    (λ m f. ⊎_elim (λ w. inl (f.0, w, f.2)) (λ w. inr w) (first_cases xs k n f.0 m at f.1 f.2))
    (λ m f. let lt = f.1 in (f.0, omega (arith, lt), f.2)) (k, omega arith, at)

pub firsts_all : (xs : List ℕ) (k : ℕ) (old new : List ℕ) → length xs ≤ k → Adds (λ m. (i : ℕ) × (i < k) × (slice_get xs i ≡ Some m)) old new → Adds (Contains xs) old new
firsts_all xs k old new past h =
    adds_as (λ m. (i : ℕ) × (i < k) × (slice_get xs i ≡ Some m)) (Contains xs) old new h
    (λ m w. let q = at_contains xs m w in let lt = slice_get_within xs q.0 m q.1 in (q.0, omega (arith, lt, past), q.1))
    (λ m f. contains_at xs f.0 m f.2)

-- what is added to nothing is all that is there
pub adds_exact : (E : ℕ → Type 0) (new : List ℕ) → Adds E [] new → (n : ℕ) → Contains new n ↔ E n
adds_exact E new h n = (λ w. h.only n (subst (λ xs. Contains xs n) h.is w), λ e. h.all n e)

-- what stands behind the old ones is what is new
pub behind : (old more all : List ℕ) (count : ℕ) → count ≡ length old → Adds (Contains more) old all → IsDistinct nat_eq all
    → (n : ℕ) → ((i : ℕ) × (count ≤ i) × (slice_get all i ≡ Some n)) ↔ (Contains more n × (Contains old n → ⊥))
behind old more all count is h distinct n = (
  λ w. (⊎_elim (λ o. absurd (never w o)) (λ m. h.only n m) (Contains-append_cases old h.more n (subst (λ xs. Contains xs n) h.is (contains_at all w.0 n w.2))), never w),
  λ w. let q = at_contains all n (h.all n w.0) in (q.0, later q.0 q.1 w.1, q.1),
)
  where
    left : (i : ℕ) → i < length old → slice_get all i ≡ slice_get old i
    left i lt = ap (λ xs. slice_get xs i) h.is ∙ slice_get_left old h.more i lt

    never : ((i : ℕ) × (count ≤ i) × (slice_get all i ≡ Some n)) → Contains old n → ⊥
    never w o =
        let q = at_contains old n o in
        let lt = slice_get_within old q.0 n q.1 in
        let e = one_place all n w.0 q.0 distinct w.2 (left q.0 lt ∙ q.1) in
        let le = w.1 in
        omega (arith, lt, e, le, is)

    later : (i : ℕ) → slice_get all i ≡ Some n → (Contains old n → ⊥) → count ≤ i
    later i at never = ⊎_elim (λ lt. let inside : i < length old = omega (arith, lt, is) in absurd (never (contains_at old i n (sym (left i inside) ∙ at)))) (λ le. le) (below_or_not i count)

-- each of the same is that
pub replicate_at : {A : Type 0} (k : ℕ) (x y : A) (i : ℕ) → slice_get (replicate k x) i ≡ Some y → x ≡ y
replicate_at zero x y i at = absurd (none-some y at)
replicate_at (suc k) x y zero at = same_Some x y at
replicate_at (suc k) x y (suc i) at = replicate_at k x y i at
