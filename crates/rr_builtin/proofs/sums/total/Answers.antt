use Rattle.std.specs.Int.{w128}
use Rattle.std.proofs.Math.Facts.{to_z-of_z}
use Rattle.std.proofs.Common.{rules, to_z, of_z, ◌≡◌, ◌∙◌, ◌+◌, ◌<◌, ◌+ℤ◌, suc, Ok, Err, length, refl, sym, ap, subst, arith}
use Rattle.std.proofs.lemmas.Int.{ints}
use Rattle.rr_space.specs.Labels.{triples_at}
use Rattle.rr_builtin.specs.Acts.{element_at}
use Rattle.rr_builtin.proofs.Listing.{listed, listed_all}
use Rattle.rr_builtin.specs.Sums.{IsSumOfSoMany, integer_of, integers_of, totalled}
use Rattle.rr_builtin.proofs.Summing.{sum_more, sum_other}
use Rattle.rr_builtin.proofs.sums.total.Goals as goal

pub loop-place-init : goal.loop-place-init
loop-place-init c = (refl, (omega (arith, ints), omega (arith, ints)))

pub returns-in-None-clause-other : goal.returns-in-None-clause-other
returns-in-None-clause-other c =
    let t = c.args.space.now in
    let v = c.args.array in
    let n = c.loop-place.place in
    sum_other t v n c.loop-place.sum (subst (λ m. n < m) c.arity-place-end.ensures.count c.loop-place-test.true) (c.loop-place.invariant.0 ∙ ap Ok c.loop-place.sum-is)
    (ap integer_of (sym c.element-value.ensures.is) ∙ sym c.integer_of.ensures ∙ c.in-None.is)
    ∙ ap Err (sym c.element-value.ensures.is)

pub loop-place-preserved : goal.loop-place-preserved
loop-place-preserved c =
    let t = c.args.space.now in
    let v = c.args.array in
    let n = c.loop-place.place in
    let is : c.added-sum.result ≡ c.loop-place.sum +ℤ c.in-Some.number = search rules in
    let more = sum_more (listed t v n) (element_at t v n) c.in-Some.number c.loop-place.sum (c.loop-place.invariant.0 ∙ ap Ok c.loop-place.sum-is) (ap integer_of (sym c.element-value.ensures.is) ∙ sym c.integer_of.ensures ∙ c.in-Some.is) in
    let all : totalled (integers_of (listed t v (n + 1))) ≡ Ok c.added-sum.result = subst (λ k. totalled (integers_of (listed t v k)) ≡ Ok c.added-sum.result) (let z : suc n ≡ n + 1 = omega arith in z) (more ∙ ap Ok (sym is)) in
    let bounded : IsSumOfSoMany (n + 1) c.added-sum.result = search rules in
    let back : to_z w128 (of_z w128 c.added-sum.result) ≡ c.added-sum.result = to_z-of_z {w = w128} {z = c.added-sum.result} (record { sfits = c.added-sum.type_inv }) in
    subst (λ z. (totalled (integers_of (listed t v (n + 1))) ≡ Ok z) × IsSumOfSoMany (n + 1) z) (sym back) (all, bounded)

pub returns-clause-all : goal.returns-clause-all
returns-clause-all c =
    let t = c.args.space.now in
    let v = c.args.array in
    let is : c.loop-place.place ≡ length (triples_at t v) = search rules in
    ap (λ xs. totalled (integers_of xs)) (sym (listed_all t v) ∙ ap (listed t v) (sym is)) ∙ c.loop-place.invariant.0
