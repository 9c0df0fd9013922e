use Rattle.std.proofs.Common.{rules, ◌≡◌, Some, None}
use Rattle.rr_port.proofs.Keeping.{kept_without_last, kept_grabbed}
use Rattle.rr_port.proofs.state.PortState.grab.Goals as goal

pub invariant_of-self : goal.invariant_of-self
invariant_of-self c =
    let is : c.self.inside.last ≡ Some c.in-Some.given = search rules in
    rw (c.push_reserved.ensures.items, c.push_reserved.ensures.capacity, c.size-size.ensures, c.take.ensures.after) (kept_without_last _ _ c.args.who c.in-Some.given c.self.invariant is)

pub returns-in-Some-clause-replays : goal.returns-in-Some-clause-replays
returns-in-Some-clause-replays c = (invariant_of-self c).replays

pub invariant_of-self-in-Some-take : goal.invariant_of-self-in-Some-take
invariant_of-self-in-Some-take c =
    let none : c.self.inside.last ≡ None = search rules in
    let is : c.self.inside.shown ≡ Some c.in-Some-take.shown = search rules in
    rw (c.push_reserved-in-Some-take.ensures.items, c.push_reserved-in-Some-take.ensures.capacity, c.size-size-in-Some-take.ensures.size, c.take.ensures.after, c.take-2.ensures.after, ← none) (kept_grabbed _ _ c.args.who c.in-Some-take.shown c.self.invariant none c.if-self.false is)

pub returns-in-Some-take-clause-replays : goal.returns-in-Some-take-clause-replays
returns-in-Some-take-clause-replays c = (invariant_of-self-in-Some-take c).replays

pub returns-in-Some-clause-tickets : goal.returns-in-Some-clause-tickets
returns-in-Some-clause-tickets c = (invariant_of-self c).tickets

pub returns-in-Some-take-clause-tickets : goal.returns-in-Some-take-clause-tickets
returns-in-Some-take-clause-tickets c = (invariant_of-self-in-Some-take c).tickets
