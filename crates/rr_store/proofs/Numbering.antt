-- Laws on clusters and their numbers.
use Rattle.std.proofs.Common.{◌≡◌, ℕ, ◌+◌, ◌<◌, List, [], ◌∷◌, ◌++◌, length, ap, sym, subst, ◌∙◌, arith, slice_get, Some, Contains, ◌⊎◌, inl, inr}
use Rattle.std.proofs.lemmas.Option.{slice_get_within}
use Rattle.rr_space.specs.Graph.{Object}
use Rattle.rr_space.specs.Tables.{Whole, outer_objects}
use Rattle.rr_space.proofs.Hands.{append_left, append_cases}
use Rattle.rr_store.specs.Numbers.{IsStored, StoredAreOneEach, StoredStay, LeadBackStays}
use Rattle.rr_store.proofs.Keeping.{only_one}

pub stored_are_one_each : StoredAreOneEach
stored_are_one_each ws below all c os ps first second =
    let a = all c os first in
    let b = all c ps second in
    let same : a.0 ≡ b.0 = let e : Some a.0 ≡ Some b.0 = sym a.1 ∙ b.1 in cc in
    a.2 ∙ ap outer_objects same ∙ sym b.2

stored_on : (ws : List Whole) (w : Whole) (c : ℕ) (os : List Object) → IsStored ws c os → IsStored (ws ++ w ∷ []) c os
stored_on ws w c os s = (s.0, append_left ws (w ∷ []) c s.0 s.1, s.2)

pub stored_stay : StoredStay
stored_stay ws w below all c os has = stored_on ws w c os (all c os has)

pub lead_back_stays : LeadBackStays
lead_back_stays ws w back stored i x c os is has = by (append_cases ws (w ∷ []) i x is) where
  by : ((slice_get ws i ≡ Some x) ⊎ ((j : ℕ) × (i ≡ length ws + j) × (slice_get (w ∷ []) j ≡ Some x))) → (c < i) × IsStored (ws ++ w ∷ []) c os
  by (inl old) = let b = back i x c os old has in (b.0, stored_on ws w c os b.1)
  by (inr h) =
      let one = only_one w x h.0 h.2 in
      let s = stored c os (subst (λ (v : Whole). Contains v.below (c, os)) (sym one.1) has) in
      let below : c < length ws = slice_get_within ws c s.0 s.1 in
      (omega (arith, below, h.1, one.0), stored_on ws w c os s)
