use Rattle.std.proofs.Common.{Contains, arith}
use Rattle.rr_space.specs.Tables.{space_graph}
use Rattle.rr_share.specs.Search.{LeadsOn}
use Rattle.rr_share.specs.Marks.{LeadsBefore}
use Rattle.rr_share.proofs.Noting.{sourced_none, before_none, sourced_as, before_all, before_back}
use Rattle.rr_share.proofs.sources.sources_of.Goals as goal

pub loop-place-init : goal.loop-place-init
loop-place-init c =
    let g = space_graph c.args.space.now in
    let found = c.args.found.now in
    sourced_none found (LeadsBefore g found 0 0) c.len.result c.in_ok-sources.sources c.len.ensures.len c.in_ok-sources.ensures.none (before_none g found)

pub returns-clause-exact : goal.returns-clause-exact
returns-clause-exact c =
    let g = space_graph c.args.space.now in
    let found = c.args.found.now in
    sourced_as found (LeadsBefore g found c.loop-place.place 0) (λ n m. Contains found n × LeadsOn g n m) c.loop-place.sources c.loop-place.invariant
    (λ m n has w. before_back g found c.loop-place.place n m w) (λ m n has w. before_all g found c.loop-place.place n m (omega (arith, c.len-place-end.ensures.len, c.loop-place-test.false)) w)
