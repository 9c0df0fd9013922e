use Rattle.std.proofs.Common.{rules, ◌≡◌, ◌≤◌, ◌∙◌, ◌+◌, ◌*◌, ◌/◌, suc, length, subst, arith}
use Rattle.rr_space.specs.Labels.{triples_at}
use Rattle.rr_builtin.specs.Acts.{element_at}
use Rattle.rr_builtin.proofs.Listing.{halves, halves_all}
use Rattle.rr_builtin.proofs.Gathering.{IsGathered, gathered_more}
use Rattle.rr_builtin.proofs.arrays.every_other.Goals as goal

pub loop-pair-preserved : goal.loop-pair-preserved
loop-pair-preserved c =
    let t = c.args.space.now in
    let v = c.args.hash in
    let d = c.args.offset in
    let n = c.loop-pair.pair in
    subst (λ k. IsGathered t v c.push.new.self.items (halves t v d k)) (let z : suc n ≡ n + 1 = omega arith in z)
    (gathered_more t v c.loop-pair.items.items c.push.new.self.items (halves t v d n) c.element.result (element_at t v (2 * n + d)) c.loop-pair.invariant c.in_ok-push.ensures.items c.element.ensures.is c.element.ensures.within c.element.ensures.among)

pub returns-clause-items : goal.returns-clause-items
returns-clause-items c =
    let t = c.args.space.now in
    let v = c.args.hash in
    let n = c.loop-pair.pair in
    let half : n ≡ length (triples_at t v) / 2 = search rules in
    let low : 2 * n ≤ length (triples_at t v) = omega (arith, half) in
    let high : length (triples_at t v) ≤ 2 * n + 1 = omega (arith, half) in
    c.loop-pair.invariant.are ∙ halves_all t v c.args.offset c.requires n low high
