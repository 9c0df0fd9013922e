-- A list of numbers that grows until it is closed under steps.
use Rattle.std.proofs.Common.{◌≡◌, ℕ, zero, suc, ◌+◌, ◌<◌, ◌≤◌, Bool, true, false, nat_eq, List, [], ◌∷◌, ◌++◌, length, slice_get, Some, Contains, sym, ap, ◌∙◌, subst, refl, ◌⊎◌, ⊎_elim, arith, if◌then◌else◌}
use Rattle.std.proofs.lemmas.Bool.{eqb-true}
use Rattle.std.proofs.lemmas.List.{append_assoc, append-nil}
use Rattle.std.proofs.lemmas.List.Elements.{Contains-append_left, Contains-append_cases}
use Rattle.std.proofs.lemmas.Option.{slice_get_within, get_or_from_slice_get, slice_get-get_or}
use Rattle.std.specs.List.{list_any, IsDistinct}
use Rattle.indexmap.specs.IndexSet.{insert_key}
use Rattle.indexmap.proofs.CallerLemmas.{Contains-insert_key, Contains-list_any}
use Rattle.std.proofs.lemmas.Map.Steps.{length-le_from_distinct_below}
use Rattle.rr_share.specs.Search.{Adds, Searched}

-- the element at a place is in the list
pub contains_at : {X : Type 0} (xs : List X) (i : ℕ) (x : X) → slice_get xs i ≡ Some x → Contains xs x
contains_at xs i x e = (i, slice_get_within xs i x e, get_or_from_slice_get xs i x x e)

pub at_contains : {X : Type 0} (xs : List X) (x : X) → Contains xs x → (i : ℕ) × (slice_get xs i ≡ Some x)
at_contains xs x (i, lt, e) = (i, slice_get-get_or xs i x lt ∙ ap Some e)

-- nothing is in the list of nothing, and one in the list of one
pub none_in : {X : Type 0} (x : X) → Contains [] x → ⊥
none_in x (i, lt, e) = omega (arith, lt)

pub one_in : {X : Type 0} (x y : X) → Contains (x ∷ []) y → x ≡ y
one_in x y (zero, lt, e) = e
one_in x y (suc i, lt, e) = absurd (omega (arith, lt))

pub below_cases : (i k : ℕ) → i < k + 1 → (i < k) ⊎ (i ≡ k)
below_cases i k h = grind arith

-- an insert adds nothing but its key
pub record Inserts (old : List ℕ) (t : ℕ) (new : List ℕ) : Type 0 where
  pub more : List ℕ
  pub is : new ≡ old ++ more
  pub only : (m : ℕ) → Contains more m → t ≡ m
  pub has : Contains new t

pub inserts : (old : List ℕ) (t : ℕ) (new : List ℕ) → new ≡ insert_key nat_eq old t → Inserts old t new
inserts old t new e = by (list_any (nat_eq t) old) refl
  where
    has : Contains new t
    has = subst (λ xs. Contains xs t) (sym e) (Contains-insert_key nat_eq eqb-true old t)

    by : (b : Bool) → list_any (nat_eq t) old ≡ b → Inserts old t new
    by true p = record {
      more = [];
      is = e ∙ ap (λ c. if c then old else old ++ t ∷ []) p ∙ sym (append-nil old);
      only = λ m h. absurd (none_in m h);
      has = has;
    }
    by false p = record {
      more = t ∷ [];
      is = e ∙ ap (λ c. if c then old else old ++ t ∷ []) p;
      only = λ m h. one_in t m h;
      has = has;
    }

pub adds_none : (E : ℕ → Type 0) (old : List ℕ) → ((m : ℕ) → E m → ⊥) → Adds E old old
adds_none E old never = record {
  more = [];
  is = sym (append-nil old);
  all = λ m e. absurd (never m e);
  only = λ m h. absurd (none_in m h);
}

-- the same additions under another name
pub adds_as : (E F : ℕ → Type 0) (old new : List ℕ) → Adds E old new → ((m : ℕ) → F m → E m) → ((m : ℕ) → E m → F m) → Adds F old new
adds_as E F old new h back on = record { more = h.more; is = h.is; all = λ m f. h.all m (back m f); only = λ m w. on m (h.only m w) }

-- one more addition
pub adds_one : (E F : ℕ → Type 0) (old mid new : List ℕ) (t : ℕ) → Adds E old mid → new ≡ insert_key nat_eq mid t
    → ((m : ℕ) → F m → E m ⊎ (t ≡ m)) → ((m : ℕ) → E m → F m) → F t → Adds F old new
adds_one E F old mid new t h ins cases on here = let a = inserts mid t new ins in record {
  more = h.more ++ a.more;
  is = a.is ∙ ap (λ xs. xs ++ a.more) h.is ∙ append_assoc old h.more a.more;
  all = λ m f. ⊎_elim
      (λ w. subst (λ xs. Contains xs m) (sym a.is) (Contains-append_left mid a.more m (h.all m w)))
      (λ w. subst (Contains new) w a.has)
      (cases m f);
  only = λ m w. ⊎_elim (λ u. on m (h.only m u)) (λ u. subst F (a.only m u) here) (Contains-append_cases h.more a.more m w);
}

pub slice_get_left : (xs ys : List ℕ) (i : ℕ) → i < length xs → slice_get (xs ++ ys) i ≡ slice_get xs i
slice_get_left [] ys i h = absurd (omega arith)
slice_get_left (x ∷ xs) ys zero h = refl
slice_get_left (x ∷ xs) ys (suc i) h = slice_get_left xs ys i (omega arith)

module _ (Start : ℕ → Type 0) (Step : ℕ → ℕ → Type 0) (Sound : ℕ → Type 0) where
  pub searched_none : (found : List ℕ) → ((m : ℕ) → Start m → Contains found m) → ((m : ℕ) → Contains found m → Sound m) → Searched Start Step Sound 0 found
  searched_none found start sound = record { start = start; sound = sound; closed = λ i n m lt e s. absurd (omega (arith, lt)) }

  -- what the next one steps to was added
  pub searched_on : (cursor n : ℕ) (found new : List ℕ) → Searched Start Step Sound cursor found → slice_get found cursor ≡ Some n → Adds (Step n) found new
      → ((m : ℕ) → Sound n → Step n m → Sound m) → Searched Start Step Sound (cursor + 1) new
  searched_on cursor n found new h at x next = record {
    start = λ m s. kept m (h.start m s);
    sound = λ m w. ⊎_elim (h.sound m) (λ u. next m (h.sound n (contains_at found cursor n at)) (x.only m u))
        (Contains-append_cases found x.more m (subst (λ xs. Contains xs m) x.is w));
    closed = λ i n2 m lt e s. ⊎_elim
        (λ w. kept m (h.closed i n2 m w (sym (left i w) ∙ e) s))
        (λ w. x.all m (subst (λ y. Step y m) (sym (owner i n2 w e)) s))
        (below_cases i cursor lt);
  }
    where
      kept : (m : ℕ) → Contains found m → Contains new m
      kept m w = subst (λ xs. Contains xs m) (sym x.is) (Contains-append_left found x.more m w)

      inside : cursor < length found
      inside = slice_get_within found cursor n at

      left : (i : ℕ) → i < cursor → slice_get new i ≡ slice_get found i
      left i w = let i_in : i < length found = omega (arith, inside, w) in ap (λ xs. slice_get xs i) x.is ∙ slice_get_left found x.more i i_in

      owner : (i n2 : ℕ) → i ≡ cursor → slice_get new i ≡ Some n2 → n ≡ n2
      owner i n2 w e = let c : Some n ≡ Some n2 = sym at ∙ sym (slice_get_left found x.more cursor inside) ∙ ap (λ xs. slice_get xs cursor) (sym x.is) ∙ ap (slice_get new) (sym w) ∙ e in cc

  -- a search that has come to its end is closed
  pub searched_end : (cursor : ℕ) (found : List ℕ) → Searched Start Step Sound cursor found → length found ≤ cursor
      → (n m : ℕ) → Contains found n → Step n m → Contains found m
  searched_end cursor found h past n m w s =
      let q = at_contains found n w in
      let in_list : q.0 < length found = slice_get_within found q.0 n q.1 in
      h.closed q.0 n m (omega (arith, in_list, past)) q.1 s

-- numbers below a bound, each once, are at most as many
pub few_below : (found : List ℕ) (k : ℕ) → IsDistinct nat_eq found → ((n : ℕ) → Contains found n → n < k) → length found ≤ k
few_below found k distinct within = length-le_from_distinct_below found k distinct (λ q e. within q (Contains-list_any nat_eq eqb-true found q e))
