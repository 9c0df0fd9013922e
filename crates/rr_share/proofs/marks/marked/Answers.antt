use Rattle.std.proofs.Common.{◌<◌, Contains, subst, sym, arith}
use Rattle.std.proofs.lemmas.Option.{slice_get_within}
use Rattle.rr_space.specs.Tables.{space_graph}
use Rattle.rr_share.specs.Search.{IsSolidAt, LeadsOn}
use Rattle.rr_share.specs.Marks.{IsMarkable}
use Rattle.rr_share.proofs.Searching.{contains_at, adds_as, searched_none, searched_on}
use Rattle.rr_share.proofs.Places.{few_among}
use Rattle.rr_share.proofs.Marking.{markable_here, markable_back, marked_all}
use Rattle.rr_share.proofs.marks.marked.Goals as goal

pub loop-cursor-init : goal.loop-cursor-init
loop-cursor-init c =
    let t = c.args.space.now in
    let found = c.args.found.now in
    searched_none (λ m. Contains found m × (IsSolidAt t.slots m → ⊥)) (λ n m. Contains found m × LeadsOn (space_graph t) m n) (IsMarkable t found) c.in_ok-marked.marked
    (λ m s. (c.in_ok-marked.ensures.exact m).1 s) (λ m w. let s = (c.in_ok-marked.ensures.exact m).0 w in markable_here t found m s.0 s.1)

pub place_of-place-requires : goal.place_of-place-requires
place_of-place-requires c = (c.loop-cursor.invariant.sound c.at.result (contains_at c.loop-cursor.marked c.loop-cursor.cursor c.at.result c.at.ensures)).found

pub add_to-requires : goal.add_to-requires
add_to-requires c =
    subst (λ k. c.place_of-place.result < k) (sym c.requires.sourced.size) (slice_get_within c.args.found.now c.place_of-place.result c.at.result c.place_of-place.ensures)

pub loop-cursor-smaller : goal.loop-cursor-smaller
loop-cursor-smaller c =
    let few = few_among c.loop-cursor.marked c.args.found.now c.len.ensures.distinct (λ n w. (c.loop-cursor.invariant.sound n w).found) in
    omega (arith, c.len.ensures.len, c.loop-cursor-test.true, few)

pub loop-cursor-preserved : goal.loop-cursor-preserved
loop-cursor-preserved c =
    let t = c.args.space.now in
    let found = c.args.found.now in
    let n = c.at.result in
    let a = c.in_ok-add_to.ensures.added in
    let list = a.0 in
    searched_on (λ m. Contains found m × (IsSolidAt t.slots m → ⊥)) (λ n m. Contains found m × LeadsOn (space_graph t) m n) (IsMarkable t found) c.loop-cursor.cursor n c.loop-cursor.marked c.add_to.new.set
    c.loop-cursor.invariant c.at.ensures
    (adds_as (Contains list) (λ m. Contains found m × LeadsOn (space_graph t) m n) c.loop-cursor.marked c.add_to.new.set a.2
    (λ m s. (c.requires.sourced.exact c.place_of-place.result n list c.place_of-place.ensures a.1 m).1 s)
    (λ m w. (c.requires.sourced.exact c.place_of-place.result n list c.place_of-place.ensures a.1 m).0 w))
    (λ m h s. markable_back t found n m h s.0 s.1)

pub returns-clause-exact : goal.returns-clause-exact
returns-clause-exact c =
    marked_all c.args.space.now c.args.found.now c.len-slots.ensures.well.sound c.requires.closed c.loop-cursor.cursor c.loop-cursor.marked c.loop-cursor.invariant (omega (arith, c.len.ensures.len, c.loop-cursor-test.false))
