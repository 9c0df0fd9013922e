use Rattle.std.proofs.Common.{rules, ◌≡◌, Some}
use Rattle.rr_port.proofs.Keeping.{kept_withdrawn}
use Rattle.rr_port.proofs.state.PortState.withdraw.Goals as goal

pub invariant_of-self-2 : goal.invariant_of-self-2
invariant_of-self-2 c =
    let is : c.self.inside.shown ≡ Some c.in-Some.shown = search rules in
    rw (c.push_reserved.ensures.items, c.push_reserved.ensures.capacity, c.size-size.ensures.size, c.take.ensures.after) (kept_withdrawn _ _ c.args.who c.in-Some.shown c.self.invariant is)

pub returns-clause-replays : goal.returns-clause-replays
returns-clause-replays c = (invariant_of-self-2 c).replays

pub returns-clause-tickets : goal.returns-clause-tickets
returns-clause-tickets c = (invariant_of-self-2 c).tickets
