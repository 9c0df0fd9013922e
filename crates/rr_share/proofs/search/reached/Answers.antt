use Rattle.std.proofs.Common.{◌≡◌, ◌+◌, length, arith}
use Rattle.rr_space.specs.Graph.{Own, At}
use Rattle.rr_space.specs.Parts.{value_of}
use Rattle.rr_space.specs.Tables.{space_graph, resolve}
use Rattle.rr_share.specs.Search.{LeadsOn, IsReached, slots_to}
use Rattle.rr_share.proofs.Searching.{contains_at, few_below, searched_none, searched_on, searched_end}
use Rattle.rr_share.proofs.Ends.{at_err, reached_root, reached_on, reached_below, reached_here, reaches_in}
use Rattle.rr_share.proofs.search.reached.Goals as goal

pub loop-cursor-init : goal.loop-cursor-init
loop-cursor-init c =
    let t = c.args.space.now in
    searched_none (λ m. resolve t.slots (value_of c.args.root) ≡ At (Own m)) (LeadsOn (space_graph t)) (IsReached t c.args.root) c.in_ok-found.found
    (λ m e. (c.in_ok-found.ensures.exact m).1 e) (λ m w. reached_root t c.args.root m ((c.in_ok-found.ensures.exact m).0 w))

pub add_ends-requires : goal.add_ends-requires
add_ends-requires c = (c.loop-cursor.invariant.sound c.at-slot.result (contains_at c.loop-cursor.found c.loop-cursor.cursor c.at-slot.result c.at-slot.ensures)).settled

pub returns-in_err-add_ends-clause-grows : goal.returns-in_err-add_ends-clause-grows
returns-in_err-add_ends-clause-grows c =
    at_err c.from_residual-in_err-add_ends.result (c.loop-cursor.invariant.sound c.at-slot.result (contains_at c.loop-cursor.found c.loop-cursor.cursor c.at-slot.result c.at-slot.ensures)).local

pub loop-cursor-smaller : goal.loop-cursor-smaller
loop-cursor-smaller c =
    let t = c.args.space.now in
    let few = few_below c.loop-cursor.found (length t.slots + slots_to c.args.root) c.len.ensures.distinct (λ n w. reached_below t c.args.root n (c.loop-cursor.invariant.sound n w)) in
    omega (arith, c.len.ensures.len, c.loop-cursor-test.true, few)

pub loop-cursor-preserved : goal.loop-cursor-preserved
loop-cursor-preserved c =
    let t = c.args.space.now in
    searched_on (λ m. resolve t.slots (value_of c.args.root) ≡ At (Own m)) (LeadsOn (space_graph t)) (IsReached t c.args.root) c.loop-cursor.cursor c.at-slot.result c.loop-cursor.found c.add_ends.new.found
    c.loop-cursor.invariant c.at-slot.ensures c.in_ok-add_ends.ensures.added (λ m r s. reached_on t c.args.root c.len-slots.ensures.well.sound c.at-slot.result m r s)

pub returns-clause-exact : goal.returns-clause-exact
returns-clause-exact c n =
    let t = c.args.space.now in
    let end = searched_end (λ m. resolve t.slots (value_of c.args.root) ≡ At (Own m)) (LeadsOn (space_graph t)) (IsReached t c.args.root) c.loop-cursor.cursor c.loop-cursor.found
    c.loop-cursor.invariant (omega (arith, c.len.ensures.len, c.loop-cursor-test.false)) in
    (λ w. (c.loop-cursor.invariant.sound n w).reach, λ r. reaches_in t c.loop-cursor.found (resolve t.slots (value_of c.args.root)) c.len-slots.ensures.well.sound c.loop-cursor.invariant.start end n r)

pub returns-clause-within : goal.returns-clause-within
returns-clause-within c below n w = reached_here c.args.space.now c.args.root n (c.loop-cursor.invariant.sound n w) below

pub returns-clause-local : goal.returns-clause-local
returns-clause-local c n w = (c.loop-cursor.invariant.sound n w).local
