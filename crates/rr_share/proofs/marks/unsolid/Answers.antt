use Rattle.std.proofs.Common.{◌≡◌, ◌<◌, ◌+◌, ◌∙◌, ℕ, [], IsTrue, slice_get, Some, ⊎_elim, inl, inr, subst, arith}
use Rattle.std.proofs.lemmas.Option.{slice_get_within}
use Rattle.rr_share.specs.Search.{IsSolidAt}
use Rattle.rr_share.proofs.Searching.{adds_one, adds_as, contains_at, at_contains}
use Rattle.rr_share.proofs.Places.{first_cases, adds_exact}
use Rattle.rr_share.proofs.marks.unsolid.Goals as goal
use Rattle.rr_share.proofs.marks.unsolid.Goals.{then-not-is_solid+in_ok-add, else-not-is_solid}

pub loop-place-preserved : goal.loop-place-preserved
loop-place-preserved c =
    let xs = c.args.found.now in
    let k = c.loop-place.place in
    let s = c.args.space.now.slots in
    let n = c.at-slot.result in
    elim c.if-not-is_solid.branch [
      | then-not-is_solid+in_ok-add w ↦
          let no = w.if-not-is_solid.true in
          adds_one (λ n. (i : ℕ) × (i < k) × (slice_get xs i ≡ Some n) × (IsSolidAt s n → ⊥)) (λ n. (i : ℕ) × (i < k + 1) × (slice_get xs i ≡ Some n) × (IsSolidAt s n → ⊥)) [] c.loop-place.unsolid c.if-not-is_solid.unsolid n
          c.loop-place.invariant (w.unsolid-is ∙ w.in_ok-add.ensures.added)
          (λ m f. ⊎_elim (λ w. inl (f.0, w, f.2, f.3)) (λ w. inr w) (first_cases xs k n f.0 m c.at-slot.ensures f.1 f.2))
          (λ m f. let lt = f.1 in (f.0, omega (arith, lt), f.2, f.3))
          (k, omega arith, c.at-slot.ensures, λ solid. let yes : IsTrue c.is_solid.result = c.is_solid.ensures.1 solid in absurd (cc))
      | else-not-is_solid w ↦
          let yes = w.if-not-is_solid.false in
          rw w.unsolid-is
          (adds_as (λ n. (i : ℕ) × (i < k) × (slice_get xs i ≡ Some n) × (IsSolidAt s n → ⊥)) (λ n. (i : ℕ) × (i < k + 1) × (slice_get xs i ≡ Some n) × (IsSolidAt s n → ⊥)) [] c.loop-place.unsolid
          c.loop-place.invariant
          (λ m f. ⊎_elim (λ w. (f.0, w, f.2, f.3)) (λ w. absurd (f.3 (subst (IsSolidAt s) w (c.is_solid.ensures.0 yes)))) (first_cases xs k n f.0 m c.at-slot.ensures f.1 f.2))
          (λ m f. let lt = f.1 in (f.0, omega (arith, lt), f.2, f.3)))
    ]

pub returns-clause-exact : goal.returns-clause-exact
returns-clause-exact c n =
    let xs = c.args.found.now in
    let k = c.loop-place.place in
    let s = c.args.space.now.slots in
    let e = adds_exact (λ n. (i : ℕ) × (i < k) × (slice_get xs i ≡ Some n) × (IsSolidAt s n → ⊥)) c.loop-place.unsolid c.loop-place.invariant n in (
      λ w. let f = e.0 w in (contains_at xs f.0 n f.2, f.3),
      λ f. let q = at_contains xs n f.0 in let lt = slice_get_within xs q.0 n q.1 in e.1 (q.0, omega (arith, lt, c.len-place-end.ensures.len, c.loop-place-test.false), q.1, f.1),
    )
