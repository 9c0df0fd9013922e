-- Freezing the slots that were found, one after another.
use Rattle.std.proofs.Common.{◌≡◌, ℕ, ◌+◌, ◌<◌, ◌≢◌, ◌↔◌, true, nat_eq, IsTrue, not, List, length, slice_get, slice_set, Option, Some, None, Contains, ⊎_elim, sym, ap, ◌∙◌, subst, refl, arith, length-set}
use Rattle.std.proofs.lemmas.Option.{slice_get_within}
use Rattle.std.specs.List.{IsDistinct}
use Rattle.rr_space.specs.Graph.{Kind, Own, Value, Object, Reaches, text, array, hash, plain, exception, shell}
use Rattle.rr_space.specs.Tables.{Slot, Here, Led, Table, resolve, space_graph}
use Rattle.rr_space.specs.Views.{is_shell, is_whole}
use Rattle.rr_space.specs.Moves.{IsDeepFrozen}
use Rattle.rr_space.proofs.Keeping.{set_same, set_other}
use Rattle.rr_share.specs.Freezing.{FrozeFirst}
use Rattle.rr_share.proofs.Searching.{contains_at, at_contains, below_cases}
use Rattle.rr_share.proofs.Places.{one_place, same_or_not}

-- an object that is no shell is whole
pub whole_here : (slots : List Slot) (n : ℕ) (o : Object) → slice_get slots n ≡ Some (Here o) → (o.kind ≡ shell → ⊥) → IsTrue (is_whole (slice_get slots n))
whole_here slots n o here no_shell = subst (λ s. IsTrue (is_whole s)) (sym here) (by o.kind refl)
  where
    by : (k : Kind) → o.kind ≡ k → IsTrue (not (is_shell o.kind))
    by text e = ap (λ k. not (is_shell k)) e
    by array e = ap (λ k. not (is_shell k)) e
    by hash e = ap (λ k. not (is_shell k)) e
    by plain e = ap (λ k. not (is_shell k)) e
    by exception e = ap (λ k. not (is_shell k)) e
    by shell e = absurd (no_shell e)

-- what is whole is an object
pub here_whole : (slots : List Slot) (n : ℕ) → IsTrue (is_whole (slice_get slots n)) → (o : Object) × (slice_get slots n ≡ Some (Here o))
here_whole slots n whole = by (slice_get slots n) refl
  where
    by : (s : Option Slot) → slice_get slots n ≡ s → (o : Object) × (slice_get slots n ≡ Some (Here o))
    by None q = absurd (let e = subst (λ s. IsTrue (is_whole s)) q whole in let w : ⊥ = cc in w)
    by (Some (Here o)) q = (o, q)
    by (Some (Led c p)) q = absurd (let e = subst (λ s. IsTrue (is_whole s)) q whole in let w : ⊥ = cc in w)

module _ (i n : ℕ) (found : List ℕ) (distinct : IsDistinct nat_eq found) (old mid : List Slot) (h : FrozeFirst i found old mid) (at : slice_get found i ≡ Some n) where
  -- the next slot is as it was
  pub untouched : slice_get mid n ≡ slice_get old n
  untouched = h.rest n (λ k below e. let same : k ≡ i = one_place found n k i distinct e at in absurd (omega (arith, same, below)))

  pub froze_more : (new : List Slot) (o : Object) → slice_get old n ≡ Some (Here o) → new ≡ slice_set mid n (Here (record o { frozen = true })) → FrozeFirst (i + 1) found old new
  froze_more new o here is = record {
    size = ap length is ∙ length-set mid n (Here (record o { frozen = true })) ∙ h.size;
    done = λ k m p below e was. ⊎_elim (λ w. other k m p w e (h.done k m p w e was)) (λ w. this k m p w e was) (below_cases k i below);
    rest = λ m none. ⊎_elim (λ w. absurd (none i (omega arith) (at ∙ ap Some (sym w)))) (λ ne. apart m ne ∙ h.rest m (λ k below e. none k (omega (arith, below)) e)) (same_or_not m n);
  }
    where
      apart : (m : ℕ) → m ≢ n → slice_get new m ≡ slice_get mid m
      apart m ne = ap (λ xs. slice_get xs m) is ∙ set_other mid n m (Here (record o { frozen = true })) (λ e. ne (sym e))

      inside : n < length mid
      inside = slice_get_within mid n (Here o) (untouched ∙ here)

      frozen_here : slice_get new n ≡ Some (Here (record o { frozen = true }))
      frozen_here = ap (λ xs. slice_get xs n) is ∙ set_same mid n (Here (record o { frozen = true })) inside

      other : (k m : ℕ) (p : Object) → k < i → slice_get found k ≡ Some m → slice_get mid m ≡ Some (Here (record p { frozen = true })) → slice_get new m ≡ Some (Here (record p { frozen = true }))
      other k m p below e was = ⊎_elim
          (λ w. let same : k ≡ i = one_place found n k i distinct (e ∙ ap Some w) at in absurd (omega (arith, same, below)))
          (λ ne. apart m ne ∙ was) (same_or_not m n)

      this : (k m : ℕ) (p : Object) → k ≡ i → slice_get found k ≡ Some m → slice_get old m ≡ Some (Here p) → slice_get new m ≡ Some (Here (record p { frozen = true }))
      this k m p w e was =
          let q : Some n ≡ Some m = sym at ∙ ap (slice_get found) (sym w) ∙ e in
          let same : n ≡ m = cc in
          let r : ◌≡◌ {A = Object} o p = same_object o p (sym here ∙ ap (slice_get old) same ∙ was) in
          ap (slice_get new) (sym same) ∙ frozen_here ∙ ap (λ (x : Object). Some (Here (record x { frozen = true }))) r
        where
          same_object : (x y : Object) → Some (Here x) ≡ Some (Here y) → x ≡ y
          same_object x y e = cc

-- all slots that v leads to are frozen, and nothing else changed
pub froze_all : (v : Value) (found : List ℕ) (old new : Table) → ((n : ℕ) → Contains found n ↔ Reaches (space_graph old) (resolve old.slots v) (Own n)) → FrozeFirst (length found) found old.slots new.slots
    → new.below ≡ old.below → IsDeepFrozen v old new
froze_all v found old new exact h below = record {
  below = below;
  size = h.size;
  reached = λ n o r here. let q = at_contains found n ((exact n).1 r) in h.done q.0 n o (slice_get_within found q.0 n q.1) q.1 here;
  others = λ n out. h.rest n (λ k lt e. out ((exact n).0 (contains_at found k n e)));
}
