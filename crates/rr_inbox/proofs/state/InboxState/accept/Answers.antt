use Rattle.std.proofs.Common.{◌≡◌, ◌∷◌}
use Rattle.rr_inbox.proofs.Keeping.{kept_accepted}
use Rattle.rr_inbox.proofs.state.InboxState.accept.Goals as goal

pub invariant_of-self : goal.invariant_of-self
invariant_of-self c =
    let first : c.self.inside.queue.items ≡ c.in-Some.entry ∷ c.pop_front.new.self.items = c.in-Some.ensures.items in
    rw (c.push_reserved.ensures.items, c.push_reserved.ensures.capacity, c.size-size.ensures.size) (kept_accepted _ _ c.args.who c.in-Some.entry c.pop_front.new.self.items c.self.invariant first)

pub returns-in-Some-clause-replays : goal.returns-in-Some-clause-replays
returns-in-Some-clause-replays c = (invariant_of-self c).replays

pub returns-in-Some-clause-tickets : goal.returns-in-Some-clause-tickets
returns-in-Some-clause-tickets c = (invariant_of-self c).tickets
