use Rattle.rr_port.proofs.Keeping.{kept_closed}
use Rattle.rr_port.proofs.state.PortState.close.Goals as goal

pub invariant_of-self : goal.invariant_of-self
invariant_of-self c =
    rw (c.push_reserved.ensures.items, c.push_reserved.ensures.capacity) (kept_closed _ _ c.args.who c.self.invariant c.if-self.false)

pub returns-clause-replays : goal.returns-clause-replays
returns-clause-replays c = (invariant_of-self c).replays

pub returns-clause-tickets : goal.returns-clause-tickets
returns-clause-tickets c = (invariant_of-self c).tickets
