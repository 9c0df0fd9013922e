use Rattle.std.proofs.Common.{◌+◌, inr, map, take, sym, subst, arith}
use Rattle.std.proofs.lemmas.List.{take_all}
use Rattle.std.specs.List.{AllZip}
use Rattle.rr_space.specs.Parts.{sealed_object}
use Rattle.rr_space.specs.Indexes.{IsIndexed}
use Rattle.rr_space.proofs.Indexing.{zip_more}
use Rattle.rr_space.proofs.indexes.indexes_of.Goals as goal

pub loop-place-preserved : goal.loop-place-preserved
loop-place-preserved c =
    let nodes = c.args.nodes.now in
    let own = map sealed_object nodes in
    let place = c.loop-place.place in
    subst (AllZip (IsIndexed (λ b. b.value.entries) own) (take (place + 1) nodes)) (sym c.in_ok-push.ensures.items)
    (zip_more (IsIndexed (λ b. b.value.entries) own) nodes c.loop-place.indexes.items place c.in_ok-index_of.field-0 c.loop-place-test.true c.loop-place.invariant c.in_ok-index_of.ensures.index)

pub returns-clause-indexes : goal.returns-clause-indexes
returns-clause-indexes c =
    let nodes = c.args.nodes.now in
    inr (subst (λ xs. AllZip (IsIndexed (λ b. b.value.entries) (map sealed_object nodes)) xs c.loop-place.indexes.items) (take_all c.loop-place.place nodes (omega (arith, c.loop-place-test.false))) c.loop-place.invariant)
