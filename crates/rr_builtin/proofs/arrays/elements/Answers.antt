use Rattle.std.proofs.Common.{rules, ◌≡◌, ◌∙◌, ◌+◌, suc, length, ap, subst, arith}
use Rattle.rr_space.specs.Labels.{triples_at}
use Rattle.rr_builtin.specs.Acts.{element_at}
use Rattle.rr_builtin.proofs.Listing.{listed, listed_all}
use Rattle.rr_builtin.proofs.Gathering.{IsGathered, gathered_more}
use Rattle.rr_builtin.proofs.arrays.elements.Goals as goal

pub loop-place-preserved : goal.loop-place-preserved
loop-place-preserved c =
    let t = c.args.space.now in
    let v = c.args.array in
    let n = c.loop-place.place in
    subst (λ k. IsGathered t v c.push.new.self.items (listed t v k)) (let z : suc n ≡ n + 1 = omega arith in z)
    (gathered_more t v c.loop-place.items.items c.push.new.self.items (listed t v n) c.element.result (element_at t v n) c.loop-place.invariant c.in_ok-push.ensures.items c.element.ensures.is c.element.ensures.within c.element.ensures.among)

pub returns-clause-items : goal.returns-clause-items
returns-clause-items c =
    let t = c.args.space.now in
    let v = c.args.array in
    let is : c.loop-place.place ≡ length (triples_at t v) = search rules in
    c.loop-place.invariant.are ∙ ap (listed t v) is ∙ listed_all t v
