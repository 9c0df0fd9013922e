use Rattle.std.proofs.Common.{rules, ◌++◌, ◌∷◌, [], ◌≡◌, ◌∙◌, ◌+◌, ◌<◌, suc, Ok, Err, length, sym, ap, subst, arith}
use Rattle.rr_space.specs.Labels.{triples_at}
use Rattle.rr_builtin.specs.Acts.{element_at}
use Rattle.rr_builtin.specs.Elements.{each_as}
use Rattle.rr_builtin.specs.Sums.{integer_of}
use Rattle.rr_builtin.proofs.Listing.{listed, listed_all}
use Rattle.rr_builtin.proofs.Each.{each_more, each_other}
use Rattle.rr_builtin.proofs.sorts.numbers.Goals as goal

pub returns-in-None-clause-other : goal.returns-in-None-clause-other
returns-in-None-clause-other c =
    let t = c.args.space.now in
    let v = c.args.array in
    let n = c.loop-place.place in
    each_other integer_of t v n c.loop-place.numbers.items (subst (λ m. n < m) c.arity-place-end.ensures.count c.loop-place-test.true) c.loop-place.invariant
    (ap integer_of (sym c.element-value.ensures.is) ∙ sym c.integer_of.ensures ∙ c.in-None.is)
    ∙ ap Err (sym c.element-value.ensures.is)

pub loop-place-preserved : goal.loop-place-preserved
loop-place-preserved c =
    let t = c.args.space.now in
    let v = c.args.array in
    let n = c.loop-place.place in
    let more = each_more integer_of (listed t v n) (element_at t v n) c.in-Some.number c.loop-place.numbers.items c.loop-place.invariant (ap integer_of (sym c.element-value.ensures.is) ∙ sym c.integer_of.ensures ∙ c.in-Some.is) in
    let items : c.push.new.self.items ≡ c.loop-place.numbers.items ++ c.in-Some.number ∷ [] = search rules in
    subst (λ k. each_as integer_of (listed t v k) ≡ Ok c.push.new.self.items) (let z : suc n ≡ n + 1 = omega arith in z) (more ∙ ap Ok (sym items))

pub returns-clause-all : goal.returns-clause-all
returns-clause-all c =
    let t = c.args.space.now in
    let v = c.args.array in
    let is : c.loop-place.place ≡ length (triples_at t v) = search rules in
    ap (λ xs. each_as integer_of xs) (sym (listed_all t v) ∙ ap (listed t v) (sym is)) ∙ c.loop-place.invariant
