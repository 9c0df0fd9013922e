use Rattle.std.proofs.Common.{◌≡◌, ◌<◌, ◌≤◌, ◌+◌, ℕ, [], slice_get, Some, ⊎_elim, inl, inr, arith}
use Rattle.std.proofs.lemmas.Option.{slice_get_within}
use Rattle.rr_share.proofs.Searching.{adds_one}
use Rattle.rr_share.proofs.Places.{first_cases, adds_exact}
use Rattle.rr_share.proofs.marks.slots_from.Goals as goal

pub loop-place-preserved : goal.loop-place-preserved
loop-place-preserved c =
    let xs = c.args.set.now in
    let k = c.loop-place.place in
    let s = c.args.start in
    adds_one (λ n. (i : ℕ) × (s ≤ i) × (i < k) × (slice_get xs i ≡ Some n)) (λ n. (i : ℕ) × (s ≤ i) × (i < k + 1) × (slice_get xs i ≡ Some n)) [] c.loop-place.rest c.add.new.self c.at.result
    c.loop-place.invariant c.in_ok-add.ensures.added
    (λ m f. ⊎_elim (λ w. inl (f.0, f.1, w, f.3)) (λ w. inr w) (first_cases xs k c.at.result f.0 m c.at.ensures f.2 f.3))
    (λ m f. let lt = f.2 in (f.0, f.1, omega (arith, lt), f.3))
    (k, c.loop-place.auto.place, omega arith, c.at.ensures)

pub returns-clause-exact : goal.returns-clause-exact
returns-clause-exact c n =
    let xs = c.args.set.now in
    let k = c.loop-place.place in
    let s = c.args.start in
    let e = adds_exact (λ n. (i : ℕ) × (s ≤ i) × (i < k) × (slice_get xs i ≡ Some n)) c.loop-place.rest c.loop-place.invariant n in
    (λ w. let f = e.0 w in (f.0, f.1, f.3), λ f. e.1 (f.0, f.1, (let lt = slice_get_within xs f.0 n f.2 in omega (arith, lt, c.len-place-end.ensures.len, c.loop-place-test.false)), f.2))
