use Rattle.std.proofs.Common.{rules, ◌≡◌, false}
use Rattle.rr_port.proofs.Keeping.{kept_last, kept_late}
use Rattle.rr_port.proofs.state.PortState.show_last.Goals as goal

pub invariant_of-self : goal.invariant_of-self
invariant_of-self c =
    let ungiven : c.self.inside.given ≡ false = search rules in
    rw (c.push_reserved.ensures.items, c.push_reserved.ensures.capacity, c.size-size.ensures) (kept_late _ _ c.args.who c.args.last c.self.invariant c.if-self.true ungiven)

pub returns-then-self-clause-replays : goal.returns-then-self-clause-replays
returns-then-self-clause-replays c = (invariant_of-self c).replays

pub invariant_of-self-2 : goal.invariant_of-self-2
invariant_of-self-2 c =
    let ungiven : c.self.inside.given ≡ false = search rules in
    rw (c.push_reserved-2.ensures.items, c.push_reserved-2.ensures.capacity, c.event-event.ensures) (kept_last _ _ c.args.who c.args.last c.self.invariant c.if-self.false ungiven)

pub returns-clause-replays : goal.returns-clause-replays
returns-clause-replays c = (invariant_of-self-2 c).replays

pub returns-then-self-clause-tickets : goal.returns-then-self-clause-tickets
returns-then-self-clause-tickets c = (invariant_of-self c).tickets

pub returns-clause-tickets : goal.returns-clause-tickets
returns-clause-tickets c = (invariant_of-self-2 c).tickets
