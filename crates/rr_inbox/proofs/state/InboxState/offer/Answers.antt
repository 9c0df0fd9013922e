use Rattle.std.proofs.Common.{rules, arith, ◌≡◌, ◌+◌, ◌≤◌, length, vec_len, vec_capacity}
use Rattle.std.specs.VecDeque.{deque_len}
use Rattle.rr_inbox.specs.Inboxes.{Inbox, owed}
use Rattle.rr_inbox.proofs.Keeping.{kept_offered, kept_refused}
use Rattle.rr_inbox.proofs.state.InboxState.offer.Goals as goal

pub invariant_of-self-then-self : goal.invariant_of-self-then-self
invariant_of-self-then-self c =
    let s : Inbox = record { inside = c.self.inside.queue.items; closed = c.self.inside.closed; next = c.self.inside.next; history = c.self.inside.history.items; limit = c.self.inside.limit } in
    let v : vec_len c.self.inside.history ≡ length c.self.inside.history.items = search rules in
    let d : deque_len c.self.inside.queue ≡ length c.self.inside.queue.items = search rules in
    let fits : length s.history + owed s + 2 ≤ s.limit = omega (arith, v, d, c.len.ensures, c.len-2.ensures, c.still_owed-owed.ensures, c.if-len-owed.false) in
    let grown : vec_len c.reserve.new.self + (c.still_owed-owed.result + 2) ≤ vec_capacity c.reserve.new.self = search rules in
    let room : length s.history + owed s + 2 ≤ vec_capacity c.reserve.new.self = omega (arith, v, d, c.len.ensures, c.still_owed-owed.ensures, c.reserve.ensures.len, grown) in
    rw (c.push_reserved.ensures.items, c.push_reserved.ensures.capacity, c.reserve.ensures.items, c.size-size.ensures.size) (kept_refused s _ (vec_capacity c.reserve.new.self) c.args.who c.args.message c.self.invariant c.if-self.true fits room)

pub returns-then-self-clause-replays : goal.returns-then-self-clause-replays
returns-then-self-clause-replays c = (invariant_of-self-then-self c).replays

pub invariant_of-self-2 : goal.invariant_of-self-2
invariant_of-self-2 c =
    let s : Inbox = record { inside = c.self.inside.queue.items; closed = c.self.inside.closed; next = c.self.inside.next; history = c.self.inside.history.items; limit = c.self.inside.limit } in
    let v : vec_len c.self.inside.history ≡ length c.self.inside.history.items = search rules in
    let d : deque_len c.self.inside.queue ≡ length c.self.inside.queue.items = search rules in
    let fits : length s.history + owed s + 2 ≤ s.limit = omega (arith, v, d, c.len.ensures, c.len-2.ensures, c.still_owed-owed.ensures, c.if-len-owed.false) in
    let grown : vec_len c.reserve.new.self + (c.still_owed-owed.result + 2) ≤ vec_capacity c.reserve.new.self = search rules in
    let room : length s.history + owed s + 2 ≤ vec_capacity c.reserve.new.self = omega (arith, v, d, c.len.ensures, c.still_owed-owed.ensures, c.reserve.ensures.len, grown) in
    rw (c.push_reserved-2.ensures.items, c.push_reserved-2.ensures.capacity, c.reserve.ensures.items, c.size-size.ensures.size, c.in_default.ensures.items) (kept_offered s _ (vec_capacity c.reserve.new.self) c.args.who c.args.message c.self.invariant c.if-self.false fits room)

pub returns-clause-replays : goal.returns-clause-replays
returns-clause-replays c = (invariant_of-self-2 c).replays

pub returns-clause-tickets : goal.returns-clause-tickets
returns-clause-tickets c = (invariant_of-self-2 c).tickets
