use Rattle.std.proofs.Common.{◌≡◌, ◌<◌, true, false, length, slice_get, ap, sym, ◌∙◌, refl, arith}
use Rattle.std.proofs.lemmas.Option.{same_Some, slice_get_within}
use Rattle.rr_world.specs.Views.{Assembly, Member}
use Rattle.rr_world.proofs.Insides.{read_at}
use Rattle.rr_world.proofs.world.World.running.Goals as goal

pub returns-in_default-clause-none : goal.returns-in_default-clause-none
returns-in_default-clause-none c k stands runs =
    let w = c.args.self.now in
    let many = ap length (ap (λ (v : Assembly). v.ractors) c.self.view_is) in
    let le = c.in_default.ensures.none refl k stands in
    let lt = slice_get_within w.ractors k runs.0 runs.1 in
    absurd (omega (arith, le, many, lt, c.len.ensures))

pub returns-then-runs-clause-found : goal.returns-then-runs-clause-found
returns-then-runs-clause-found c =
    let w = c.args.self.now in
    let vs : c.self.inside.ractors.items ≡ w.ractors = ap (λ (v : Assembly). v.ractors) c.self.view_is in
    let many = ap length vs in
    let place = c.in-Some.place in
    let lt : place < length w.ractors = omega (arith, many, c.len.ensures, c.in-Some.ensures.found.1) in
    (c.in-Some.ensures.found.0, lt, (c.index.result.now, read_at c.self.inside.ractors.items w.ractors place c.index.result.now vs lt c.index.ensures, sym c.runs.ensures ∙ c.if-runs.true))

pub returns-else-runs-clause-none : goal.returns-else-runs-clause-none
returns-else-runs-clause-none c k stands runs =
    let w = c.args.self.now in
    let vs : c.self.inside.ractors.items ≡ w.ractors = ap (λ (v : Assembly). v.ractors) c.self.view_is in
    let many = ap length vs in
    let place = c.in-Some.place in
    let lt : place < length w.ractors = omega (arith, many, c.len.ensures, c.in-Some.ensures.found.1) in
    let same : k ≡ place = omega (arith, stands, c.in-Some.ensures.found.0) in
    let there = read_at c.self.inside.ractors.items w.ractors place c.index.result.now vs lt c.index.ensures in
    let one : runs.0 ≡ c.index.result.now = same_Some _ _ (sym runs.1 ∙ ap (slice_get w.ractors) same ∙ there) in
    let no : true ≡ false = sym runs.2 ∙ ap (λ (m : Member). m.runs) one ∙ sym c.runs.ensures ∙ c.if-runs.false in
    absurd (let z : ⊥ = cc in z)
