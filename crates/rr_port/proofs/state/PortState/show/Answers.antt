use Rattle.std.proofs.Common.{rules, arith, ◌≡◌, ◌+◌, ◌≤◌, length, vec_len, vec_capacity, None}
use Rattle.rr_port.specs.Ports.{Port, owed}
use Rattle.rr_port.proofs.Keeping.{kept_shown, kept_refused}
use Rattle.rr_port.proofs.state.PortState.show.Goals as goal

pub invariant_of-self-then-self : goal.invariant_of-self-then-self
invariant_of-self-then-self c =
    let p : Port = record { shown = c.self.inside.shown; last = c.self.inside.last; given = c.self.inside.given; closed = c.self.inside.closed; next = c.self.inside.next; history = c.self.inside.history.items; limit = c.self.inside.limit } in
    let v : vec_len c.self.inside.history ≡ length c.self.inside.history.items = search rules in
    let fits : length p.history + owed p + 2 ≤ p.limit = omega (arith, v, c.len.ensures, c.still_owed-owed.ensures, c.if-len-owed.false) in
    let grown : vec_len c.reserve.new.self + (c.still_owed-owed.result + 2) ≤ vec_capacity c.reserve.new.self = search rules in
    let room : length p.history + owed p + 2 ≤ vec_capacity c.reserve.new.self = omega (arith, v, c.len.ensures, c.still_owed-owed.ensures, c.reserve.ensures.len, grown) in
    rw (c.push_reserved.ensures.items, c.push_reserved.ensures.capacity, c.reserve.ensures.items, c.size-size.ensures.size) (kept_refused p _ (vec_capacity c.reserve.new.self) c.args.who c.args.message c.self.invariant c.if-self.true fits room)

pub returns-then-self-clause-replays : goal.returns-then-self-clause-replays
returns-then-self-clause-replays c = (invariant_of-self-then-self c).replays

pub invariant_of-self-2 : goal.invariant_of-self-2
invariant_of-self-2 c =
    let p : Port = record { shown = c.self.inside.shown; last = c.self.inside.last; given = c.self.inside.given; closed = c.self.inside.closed; next = c.self.inside.next; history = c.self.inside.history.items; limit = c.self.inside.limit } in
    let v : vec_len c.self.inside.history ≡ length c.self.inside.history.items = search rules in
    let fits : length p.history + owed p + 2 ≤ p.limit = omega (arith, v, c.len.ensures, c.still_owed-owed.ensures, c.if-len-owed.false) in
    let grown : vec_len c.reserve.new.self + (c.still_owed-owed.result + 2) ≤ vec_capacity c.reserve.new.self = search rules in
    let room : length p.history + owed p + 2 ≤ vec_capacity c.reserve.new.self = omega (arith, v, c.len.ensures, c.still_owed-owed.ensures, c.reserve.ensures.len, grown) in
    let free : p.shown ≡ None = search rules in
    rw (c.push_reserved-2.ensures.items, c.push_reserved-2.ensures.capacity, c.reserve.ensures.items, c.size-size.ensures.size) (kept_shown p _ (vec_capacity c.reserve.new.self) c.args.who c.args.message c.self.invariant free c.if-self.false fits room)

pub returns-clause-replays : goal.returns-clause-replays
returns-clause-replays c = (invariant_of-self-2 c).replays

pub returns-then-self-clause-tickets : goal.returns-then-self-clause-tickets
returns-then-self-clause-tickets c = (invariant_of-self-then-self c).tickets

pub returns-clause-tickets : goal.returns-clause-tickets
returns-clause-tickets c = (invariant_of-self-2 c).tickets
