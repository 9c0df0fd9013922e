-- The slots of a plan, turned into forwards one after another.
use Rattle.std.proofs.Common.{◌≡◌, ℕ, ◌+◌, ◌<◌, ◌≤◌, nat_eq, IsTrue, List, [], length, slice_get, slice_set, Some, ⊎_elim, sym, ap, ◌∙◌, subst, refl, arith, length-set}
use Rattle.std.proofs.lemmas.Option.{slice_get_within}
use Rattle.std.specs.List.{IsDistinct}
use Rattle.rr_space.specs.Tables.{Slot, Here, Led, Whole, Table, IsRestKept, below_hold}
use Rattle.rr_space.specs.Sound.{IsWell}
use Rattle.rr_space.specs.Views.{is_frozen_here}
use Rattle.rr_space.specs.Moves.{IsSetAt, IsForwarded, IsPlanned, IsPromotedTo}
use Rattle.rr_space.proofs.Keeping.{set_same, set_other}
use Rattle.rr_share.proofs.Searching.{contains_at, at_contains, below_cases, few_below}
use Rattle.rr_share.proofs.Places.{one_place, same_or_not}

-- the first of the named places have what f says of their number, and the others what they had
pub record SetFirst {A : Type 0} (count : ℕ) (names : List ℕ) (f : ℕ → A) (old new : List A) : Type 0 where
  pub size : length new ≡ length old
  pub done : (k n : ℕ) → k < count → slice_get names k ≡ Some n → slice_get new n ≡ Some (f k)
  pub rest : (n : ℕ) → ((k : ℕ) → k < count → slice_get names k ≡ Some n → ⊥) → slice_get new n ≡ slice_get old n

set_none : {A : Type 0} (names : List ℕ) (f : ℕ → A) (old : List A) → SetFirst 0 names f old old
set_none names f old = record { size = refl; done = λ k n lt e. absurd (let w : ⊥ = omega (arith, lt) in w); rest = λ n none. refl }

module _ {A : Type 0} (names : List ℕ) (f : ℕ → A) (i n : ℕ) (old mid new : List A) (distinct : IsDistinct nat_eq names) (at : slice_get names i ≡ Some n) (h : SetFirst i names f old mid) where
  -- the next place is as it was
  pub next_is : slice_get mid n ≡ slice_get old n
  next_is = h.rest n (λ k below e. let same : k ≡ i = one_place names n k i distinct e at in absurd (let w : ⊥ = omega (arith, same, below) in w))

  pub set_more : n < length old → new ≡ slice_set mid n (f i) → SetFirst (i + 1) names f old new
  set_more lt is = record {
    size = ap length is ∙ length-set mid n (f i) ∙ h.size;
    done = λ k m below e. ⊎_elim (λ w. other k m w e) (λ w. this k m w e) (below_cases k i below);
    rest = λ m none. ⊎_elim
        (λ w. absurd (none i (omega arith) (at ∙ ap Some (sym w))))
        (λ ne. apart m ne ∙ h.rest m (λ k below e. none k (omega (arith, below)) e))
        (same_or_not m n);
  }
    where
      apart : (m : ℕ) → (m ≡ n → ⊥) → slice_get new m ≡ slice_get mid m
      apart m ne = ap (λ xs. slice_get xs m) is ∙ set_other mid n m (f i) (λ e. ne (sym e))

      here : slice_get new n ≡ Some (f i)
      here = ap (λ xs. slice_get xs n) is ∙ set_same mid n (f i) (omega (arith, lt, h.size))

      other : (k m : ℕ) → k < i → slice_get names k ≡ Some m → slice_get new m ≡ Some (f k)
      other k m below e = ⊎_elim
          (λ w. let same : k ≡ i = one_place names n k i distinct (e ∙ ap Some w) at in absurd (let z : ⊥ = omega (arith, same, below) in z))
          (λ ne. apart m ne ∙ h.done k m below e)
          (same_or_not m n)

      this : (k m : ℕ) → k ≡ i → slice_get names k ≡ Some m → slice_get new m ≡ Some (f k)
      this k m w e =
          let q : Some n ≡ Some m = sym at ∙ ap (slice_get names) (sym w) ∙ e in
          let same : n ≡ m = cc in
          ap (slice_get new) (sym same) ∙ here ∙ ap (λ j. Some (f j)) (sym w)

set_all : {A : Type 0} (count : ℕ) (names : List ℕ) (x : A) (old new : List A) → length names ≤ count → SetFirst count names (λ _. x) old new → IsSetAt names x old new
set_all count names x old new past h = record {
  size = h.size;
  named = λ n has. let q = at_contains names n has in let lt = slice_get_within names q.0 n q.1 in h.done q.0 n (omega (arith, lt, past)) q.1;
  others = λ n out. h.rest n (λ k lt e. out (contains_at names k n e));
}

forwarded_all : (c count : ℕ) (names : List ℕ) (old new : List Slot) → length names ≤ count → SetFirst count names (λ k. Led c k) old new → IsForwarded c names old new
forwarded_all c count names old new past h = record {
  size = h.size;
  named = λ n k at. let lt = slice_get_within names k n at in h.done k n (omega (arith, lt, past)) at;
  others = λ n out. h.rest n (λ k lt e. out (contains_at names k n e));
}

-- the slots of the first places are forwards, and nothing else changed
pub record PromotedFirst (w : Whole) (count : ℕ) (names : List ℕ) (old new : Table) : Type 0 where
  pub slots : SetFirst count names (λ k. Led w.number k) old.slots new.slots
  pub below : SetFirst count names (λ k. below_hold w) old.below new.below
  pub keys : SetFirst count names (λ k. []) old.keys new.keys
  pub rest : IsRestKept old new

pub promoted_none : (w : Whole) (names : List ℕ) (t : Table) → PromotedFirst w 0 names t t
promoted_none w names t = record {
  slots = set_none names (λ k. Led w.number k) t.slots;
  below = set_none names (λ k. below_hold w) t.below;
  keys = set_none names (λ k. []) t.keys;
  rest = record { limit = refl; owner = refl; next_message = refl };
}

-- one more slot is a forward
pub promoted_more : (w : Whole) (i n : ℕ) (names : List ℕ) (old mid new : Table) → IsWell old → IsDistinct nat_eq names → slice_get names i ≡ Some n → n < length old.slots → PromotedFirst w i names old mid
    → new.slots ≡ slice_set mid.slots n (Led w.number i) → new.below ≡ slice_set mid.below n (below_hold w) → new.keys ≡ slice_set mid.keys n [] → IsRestKept mid new → PromotedFirst w (i + 1) names old new
promoted_more w i n names old mid new well distinct at lt h slots below keys rest = record {
  slots = set_more names (λ k. Led w.number k) i n old.slots mid.slots new.slots distinct at h.slots lt slots;
  below = set_more names (λ k. below_hold w) i n old.below mid.below new.below distinct at h.below (omega (arith, lt, well.sound.count)) below;
  keys = set_more names (λ k. []) i n old.keys mid.keys new.keys distinct at h.keys (omega (arith, lt, well.keyed.count)) keys;
  rest = let r = h.rest in record { limit = rest.limit ∙ r.limit; owner = rest.owner ∙ r.owner; next_message = rest.next_message ∙ r.next_message };
}

pub promoted_all : (w : Whole) (count : ℕ) (names : List ℕ) (old new : Table) → length names ≤ count → PromotedFirst w count names old new → IsPromotedTo w names old new
promoted_all w count names old new past h = record {
  slots = forwarded_all w.number count names old.slots new.slots past h.slots;
  below = set_all count names (below_hold w) old.below new.below past h.below;
  keys = set_all count names [] old.keys new.keys past h.keys;
  rest = h.rest;
}

module _ (t : Table) (w : Whole) (names : List ℕ) (p : IsPlanned t w names) (k n : ℕ) (at : slice_get names k ≡ Some n) where
  pub planned_within : n < length t.slots
  planned_within = let s = p.same n k at in slice_get_within t.slots n (Here s.0) s.2

  pub planned_frozen : (slots : List Slot) → slice_get slots n ≡ slice_get t.slots n → IsTrue (is_frozen_here (slice_get slots n))
  planned_frozen slots same = let s = p.same n k at in subst (λ x. IsTrue (is_frozen_here x)) (sym (same ∙ s.2)) s.4

pub planned_few : (t : Table) (w : Whole) (names : List ℕ) → IsPlanned t w names → IsDistinct nat_eq names → length names ≤ length t.slots
planned_few t w names p distinct = few_below names (length t.slots) distinct (λ n has. let q = at_contains names n has in planned_within t w names p q.0 n q.1)
