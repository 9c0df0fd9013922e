use Rattle.std.proofs.Common.{◌≡◌, ◌++◌, ◌∷◌, [], ap, refl, sym, ◌∙◌, subst, slice_get, Some, None, length, ◌<◌, arith, false}
use Rattle.std.specs.Prelude.{slice_set}
use Rattle.rr_base.specs.declared.fault.Fault.{Fault}
use Rattle.rr_base.specs.declared.event.PortEvent.TheVariants as event
use Rattle.rr_copy.specs.Messages.{size_of}
use Rattle.rr_space.specs.Tables.{Packed}
use Rattle.rr_port.specs.Lasts.{message_of, last_event}
use Rattle.rr_port.specs.Ports.{Port, IsTicketed}
use Rattle.rr_port.specs.declared.last.Last.{Last}
use Rattle.rr_world.specs.Views.{Member, Assembly}
use Rattle.rr_world.specs.Leaving.{last_as}
use Rattle.rr_world.specs.Runs.{HasOutcome}
use Rattle.rr_world.specs.declared.step.Action.TheVariants.{ShowLast}
use Rattle.rr_world.specs.declared.step.Reply.TheVariants.{Offered}
use Rattle.rr_world.proofs.PortGoing.{last_left_under, last_refused_as, message_as, not_left, no_own_port}
use Rattle.rr_world.proofs.PortInsides.{none_given}
use Rattle.rr_world.proofs.Insides.{assembly, channels, ports_put, read_at, read_twice, read_set, set_in, set_again, set_twice_again, same_assembly, some_at}
use Rattle.rr_world.proofs.Staying.{refused}
use Rattle.rr_world.proofs.Enabled.{allowed, holds_not}
use Rattle.rr_world.proofs.world.World.show_last.Goals.{in-Some-1, in-None-1}
use Rattle.rr_world.proofs.world.World.show_last.Goals as goal

pub returns-then-place-len : goal.returns-then-place-len
returns-then-place-len c =
    let w = c.args.self.now in
    let vs : c.self.inside.ractors.items ≡ w.ractors = ap (λ (v : Assembly). v.ractors) c.self.view_is in
    let ps : c.self.inside.ports.items ≡ w.channels.ports = ap (λ (v : Assembly). v.channels.ports) c.self.view_is in
    let someone = some_at w.ractors c.args.place c.requires.within in
    refused (record { who = c.args.who; action = ShowLast c.args.kind }) w w refl
    (λ names g e. no_own_port w names g c.args.who c.args.place (let many = ap length ps in omega (arith, c.len.ensures, c.if-place-len.true, many)) c.requires.stands
    (allowed w names g (record { who = c.args.who; action = ShowLast c.args.kind }) c.args.place someone.0 c.requires.stands someone.1 e).1)

pub returns-then-was_given : goal.returns-then-was_given
returns-then-was_given c =
    let w = c.args.self.now in
    let vs : c.self.inside.ractors.items ≡ w.ractors = ap (λ (v : Assembly). v.ractors) c.self.view_is in
    let ps : c.self.inside.ports.items ≡ w.channels.ports = ap (λ (v : Assembly). v.channels.ports) c.self.view_is in
    let someone = some_at w.ractors c.args.place c.requires.within in
    let within : c.args.place < length w.channels.ports = let many = ap length ps in omega (arith, c.len.ensures, c.if-place-len.false, many) in
    refused (record { who = c.args.who; action = ShowLast c.args.kind }) w w refl
    (λ names g e. not_left w names g c.args.who c.args.place c.index.result.now (read_at c.self.inside.ports.items w.channels.ports c.args.place c.index.result.now ps within c.index.ensures) (sym c.was_given.ensures ∙ c.if-was_given.true) c.requires.stands
    (allowed w names g (record { who = c.args.who; action = ShowLast c.args.kind }) c.args.place someone.0 c.requires.stands someone.1 e).1)

pub returns-in_default : goal.returns-in_default
returns-in_default c =
    let w = c.args.self.now in
    let vs : c.self.inside.ractors.items ≡ w.ractors = ap (λ (v : Assembly). v.ractors) c.self.view_is in
    let ps : c.self.inside.ports.items ≡ w.channels.ports = ap (λ (v : Assembly). v.channels.ports) c.self.view_is in
    let m = c.index_mut.result.now in
    let at : slice_get w.ractors c.args.place ≡ Some m = read_at c.self.inside.ractors.items w.ractors c.args.place m vs c.requires.within c.index_mut.ensures.value in
    let none : m.hand ≡ None = c.in_default.ensures.none.0 in
    let same : c.take.new.self ≡ m = c.in_default.ensures.none.1 in
    refused (record { who = c.args.who; action = ShowLast c.args.kind }) w _
    (same_assembly _ _ _ _ (set_again c.self.inside.ractors.items w.ractors c.args.place c.take.new.self m vs at same) (ap (λ (v : Assembly). v.channels) c.self.view_is))
    (λ names g e. holds_not names c.args.place m none (allowed w names g (record { who = c.args.who; action = ShowLast c.args.kind }) c.args.place m c.requires.stands at e).0)

pub returns-in-Ok : goal.returns-in-Ok
returns-in-Ok c =
    let w = c.args.self.now in
    let vs : c.self.inside.ractors.items ≡ w.ractors = ap (λ (v : Assembly). v.ractors) c.self.view_is in
    let ps : c.self.inside.ports.items ≡ w.channels.ports = ap (λ (v : Assembly). v.channels.ports) c.self.view_is in
    let m = c.index_mut.result.now in
    let p = c.index_mut-2.result.now in
    let d = c.in-Ok.ensures in
    let less : c.args.place < length c.self.inside.ports.items = omega (arith, c.len.ensures, c.if-place-len.false) in
    let within : c.args.place < length w.channels.ports = let many = ap length ps in omega (arith, less, many) in
    let told : c.index-2.result.now ≡ p = read_twice c.self.inside.ports.items c.args.place c.index-2.result.now p less c.index-2.ensures c.index_mut-2.ensures.value in
    let asked : c.index.result.now ≡ p = read_twice c.self.inside.ports.items c.args.place c.index.result.now p less c.index.ensures c.index_mut-2.ensures.value in
    let ungiven : p.given ≡ false = ap (λ (x : Port). x.given) (sym asked) ∙ sym c.was_given.ensures ∙ c.if-was_given.false in
    let none : p.last ≡ None = subst (λ (x : Port). x.given ≡ false → x.last ≡ None) told (none_given c.index-2.result.now c.history-events.ensures.replays) ungiven in
    let marked : c.as_last.result ≡ last_as c.args.kind c.in-Some.message = c.as_last.ensures in
    let made : Assembly = assembly (slice_set c.self.inside.ractors.items c.args.place c.take.new.self) (channels (c.self.inside.store, slice_set c.self.inside.ports.items c.args.place c.show_last.new.self) c.self.inside.inboxes.items) in
    let is_made : c.match-home.self ≡ made = elim c.match-home.branch [ in-Some-1 z ↦ z.self-is | in-None-1 z ↦ z.self-is ] in
    subst (λ (v : Assembly). HasOutcome (record { who = c.args.who; action = ShowLast c.args.kind }) (Offered c.in-Ok.ticket) w v) (sym is_made)
    (last_left_under w made c.args.who c.args.place c.args.kind m p c.show_last.new.self c.in-Some.message
    (read_at c.self.inside.ractors.items w.ractors c.args.place m vs c.requires.within c.index_mut.ensures.value)
    (read_at c.self.inside.ports.items w.channels.ports c.args.place p ps within c.index_mut-2.ensures.value)
    c.in-Some.ensures.some.0 ungiven c.requires.stands
    c.in-Ok.ticket d.ticket.0
    (record {
      unshut = d.ticket.1;
      none = none;
      tickets = subst (λ (x : Port). IsTicketed x) told c.history-events.ensures.tickets;
      shown = d.shown;
      last = d.last ∙ ap (λ (l : Last). Some (record { ticket = p.next; last = l })) marked;
      given = d.given;
      closed = d.closed;
      next = d.next;
      history = d.history ∙ ap (λ t. p.history ++ last_event t c.args.who c.as_last.result ∷ []) d.ticket.0 ∙ ap (λ (l : Last). p.history ++ last_event p.next c.args.who l ∷ []) marked;
      limit = d.limit;
    })
    (set_in c.self.inside.ractors.items w.ractors c.args.place c.take.new.self (record m { hand = None; home = None }) vs c.in-Some.ensures.some.2)
    (ports_put (ap (λ (v : Assembly). v.channels.store) c.self.view_is) (ap (λ (v : Assembly). v.channels.inboxes) c.self.view_is) (set_in c.self.inside.ports.items w.channels.ports c.args.place c.show_last.new.self c.show_last.new.self ps refl)))

pub returns-in-Err : goal.returns-in-Err
returns-in-Err c =
    let w = c.args.self.now in
    let vs : c.self.inside.ractors.items ≡ w.ractors = ap (λ (v : Assembly). v.ractors) c.self.view_is in
    let ps : c.self.inside.ports.items ≡ w.channels.ports = ap (λ (v : Assembly). v.channels.ports) c.self.view_is in
    let m = c.index_mut.result.now in
    let p = c.index_mut-2.result.now in
    let d = c.in-Err.ensures in
    let x = c.in-Some.message in
    let held : m.hand ≡ Some x = c.in-Some.ensures.some.0 in
    let at : slice_get w.ractors c.args.place ≡ Some m = read_at c.self.inside.ractors.items w.ractors c.args.place m vs c.requires.within c.index_mut.ensures.value in
    let lt : c.args.place < length c.self.inside.ractors.items = omega (arith, ap length vs, c.requires.within) in
    let less : c.args.place < length c.self.inside.ports.items = omega (arith, c.len.ensures, c.if-place-len.false) in
    let within : c.args.place < length w.channels.ports = let many = ap length ps in omega (arith, less, many) in
    let asked : c.index.result.now ≡ p = read_twice c.self.inside.ports.items c.args.place c.index.result.now p less c.index.ensures c.index_mut-2.ensures.value in
    let ungiven : p.given ≡ false = ap (λ (y : Port). y.given) (sym asked) ∙ sym c.was_given.ensures ∙ c.if-was_given.false in
    let marked : c.as_last.result ≡ last_as c.args.kind x = c.as_last.ensures in
    let back : c.message_of_last.result ≡ x = c.message_of_last.ensures ∙ ap (λ (z : Fault × Last). message_of z.1) d.refused.0 ∙ ap message_of marked ∙ message_as c.args.kind x in
    let again : c.index_mut-in-Err.result.now ≡ record m { hand = None; home = None } = read_set c.self.inside.ractors.items c.args.place c.take.new.self c.index_mut-in-Err.result.now lt c.index_mut-in-Err.ensures.value ∙ c.in-Some.ensures.some.2 in
    let same : c.hold.new.self ≡ m = c.hold.ensures ∙ ap (λ (y : Member). let z : Member = record y { hand = Some c.message_of_last.result; home = c.in-Some.home; ticket = None; plan = None; published = None } in z) again
    ∙ ap (λ h. let z : Member = record m { hand = h; home = c.in-Some.home; ticket = None; plan = None; published = None } in z) (ap (λ (y : Packed). Some y) back ∙ sym held)
    ∙ ap (λ h. let z : Member = record m { home = h; ticket = None; plan = None; published = None } in z) (sym c.in-Some.ensures.some.1)
    ∙ ap (λ h. let z : Member = record m { ticket = h; plan = None; published = None } in z) (sym c.in-Some.ensures.alone)
    ∙ ap (λ e. let z : Member = record m { plan = e; published = None } in z) (sym c.in-Some.ensures.planless.0)
    ∙ ap (λ e. let z : Member = record m { published = e } in z) (sym c.in-Some.ensures.planless.1) in
    let late : c.show_last.new.self.history ≡ p.history ++ event.Late (size_of x) c.args.who ∷ [] = d.history ∙ ap (λ (l : Last). p.history ++ event.Late (size_of (message_of l)) c.args.who ∷ []) marked ∙ ap (λ (y : Packed). p.history ++ event.Late (size_of y) c.args.who ∷ []) (message_as c.args.kind x) in
    last_refused_as w _ c.args.who c.args.place c.args.kind m p c.show_last.new.self x at
    (read_at c.self.inside.ports.items w.channels.ports c.args.place p ps within c.index_mut-2.ensures.value)
    held ungiven c.requires.stands c.in-Err.fault (ap (λ (z : Fault × Last). z.0) d.refused.0) d.refused.1 d.shown d.last d.given d.closed d.next late d.limit
    (set_twice_again c.self.inside.ractors.items w.ractors c.args.place c.take.new.self c.hold.new.self m vs at same)
    (ports_put (ap (λ (v : Assembly). v.channels.store) c.self.view_is) (ap (λ (v : Assembly). v.channels.inboxes) c.self.view_is) (set_in c.self.inside.ports.items w.channels.ports c.args.place c.show_last.new.self c.show_last.new.self ps refl))
