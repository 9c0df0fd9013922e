use Rattle.std.proofs.Common.{◌+◌, ◌≤◌, length, arith}
use Rattle.rr_space.specs.Views.{IsAppended}
use Rattle.rr_space.proofs.Appending.{appended_slots, appended_within}
use Rattle.rr_space.proofs.space.Space.append.Goals as goal

pub invariant_of-self-2 : goal.invariant_of-self-2
invariant_of-self-2 c =
    let hs = c.self.inside.slots.items in
    let new = c.push_behind.new.slots.items in
    let objects = c.args.objects.items in
    let s : IsAppended (length hs) hs objects new = rw c.reserve.ensures.items at c.push_behind.ensures in
    let fits : length hs + length objects ≤ c.self.inside.limit = omega (arith, c.if-len-self.false, c.len.ensures, c.len-2.ensures, c.args.objects.ok, c.self.inside.slots.ok, c.self.invariant.0) in
    (omega (arith, s.count, fits), appended_within hs new objects s c.self.invariant.1 c.requires)

pub returns-clause-slots : goal.returns-clause-slots
returns-clause-slots c =
    let hs = c.self.inside.slots.items in
    let new = c.push_behind.new.slots.items in
    let s : IsAppended (length hs) hs c.args.objects.items new = rw c.reserve.ensures.items at c.push_behind.ensures in
    appended_slots hs new c.self.inside.limit c.self.inside.owner.0 c.self.inside.next_message c.args.self.now c.args.objects.items c.self.view_is s
