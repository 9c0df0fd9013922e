use Rattle.std.proofs.Common.{◌≡◌, ◌++◌, ◌∷◌, [], ap, refl, sym, ◌∙◌, subst, slice_get, Some, None, length, ◌<◌, arith}
use Rattle.std.proofs.lemmas.Bool.{false≢true}
use Rattle.std.specs.Option.{ForSome}
use Rattle.rr_base.specs.declared.event.PortEvent.TheVariants as event
use Rattle.rr_copy.specs.Messages.{size_of}
use Rattle.rr_move.specs.Homes.{IsHomeOf}
use Rattle.rr_move.specs.declared.home.Home.{Home}
use Rattle.rr_space.specs.Tables.{Packed}
use Rattle.rr_port.specs.Ports.{Port, IsTicketed}
use Rattle.rr_world.specs.Views.{Member, Assembly, waits_under}
use Rattle.rr_world.specs.declared.step.Action.TheVariants.{Show}
use Rattle.rr_world.proofs.PortShowing.{no_place_to_show, show_refused, shown_under, shows_already}
use Rattle.rr_world.proofs.Insides.{ports_put, read_at, read_twice, read_set, set_in, set_again, set_twice_again, same_assembly, some_at}
use Rattle.rr_world.proofs.Lists.{set_twice}
use Rattle.rr_world.proofs.Staying.{refused}
use Rattle.rr_world.proofs.Enabled.{allowed, holds_not}
use Rattle.rr_world.proofs.world.World.show.Goals as goal

pub returns-then-place-len : goal.returns-then-place-len
returns-then-place-len c =
    let w = c.args.self.now in
    let ps : c.self.inside.ports.items ≡ w.channels.ports = ap (λ (v : Assembly). v.channels.ports) c.self.view_is in
    let someone = some_at w.ractors c.args.place c.requires.within in
    refused (record { who = c.args.who; action = Show }) w w refl
    (λ names g e. no_place_to_show w names g c.args.who c.args.place (let many = ap length ps in omega (arith, c.len.ensures, c.if-place-len.true, many)) c.requires.stands
    (allowed w names g (record { who = c.args.who; action = Show }) c.args.place someone.0 c.requires.stands someone.1 e).1)

pub returns-then-not-is_free : goal.returns-then-not-is_free
returns-then-not-is_free c =
    let w = c.args.self.now in
    let ps : c.self.inside.ports.items ≡ w.channels.ports = ap (λ (v : Assembly). v.channels.ports) c.self.view_is in
    let someone = some_at w.ractors c.args.place c.requires.within in
    let within : c.args.place < length w.channels.ports = let many = ap length ps in omega (arith, c.len.ensures, c.if-place-len.false, many) in
    refused (record { who = c.args.who; action = Show }) w w refl
    (λ names g e. shows_already w names g c.args.who c.args.place c.index.result.now (read_at c.self.inside.ports.items w.channels.ports c.args.place c.index.result.now ps within c.index.ensures)
    (λ none. absurd (false≢true (c.if-not-is_free.ensures.1 none))) c.requires.stands
    (allowed w names g (record { who = c.args.who; action = Show }) c.args.place someone.0 c.requires.stands someone.1 e).1)

pub returns-in_default : goal.returns-in_default
returns-in_default c =
    let w = c.args.self.now in
    let vs : c.self.inside.ractors.items ≡ w.ractors = ap (λ (v : Assembly). v.ractors) c.self.view_is in
    let m = c.index_mut.result.now in
    let at : slice_get w.ractors c.args.place ≡ Some m = read_at c.self.inside.ractors.items w.ractors c.args.place m vs c.requires.within c.index_mut.ensures.value in
    let none : m.hand ≡ None = c.in_default.ensures.none.0 in
    let same : c.take.new.self ≡ m = c.in_default.ensures.none.1 in
    refused (record { who = c.args.who; action = Show }) w _
    (same_assembly _ _ _ _ (set_again c.self.inside.ractors.items w.ractors c.args.place c.take.new.self m vs at same) (ap (λ (v : Assembly). v.channels) c.self.view_is))
    (λ names g e. holds_not names c.args.place m none (allowed w names g (record { who = c.args.who; action = Show }) c.args.place m c.requires.stands at e).0)

pub returns-in-Ok : goal.returns-in-Ok
returns-in-Ok c =
    let w = c.args.self.now in
    let vs : c.self.inside.ractors.items ≡ w.ractors = ap (λ (v : Assembly). v.ractors) c.self.view_is in
    let ps : c.self.inside.ports.items ≡ w.channels.ports = ap (λ (v : Assembly). v.channels.ports) c.self.view_is in
    let m = c.index_mut.result.now in
    let p = c.index_mut-2.result.now in
    let d = c.in-Ok.ensures in
    let x = c.in-Some.message in
    let lt : c.args.place < length c.self.inside.ractors.items = omega (arith, ap length vs, c.requires.within) in
    let less : c.args.place < length c.self.inside.ports.items = omega (arith, c.len.ensures, c.if-place-len.false) in
    let within : c.args.place < length w.channels.ports = let many = ap length ps in omega (arith, less, many) in
    let told : c.index-2.result.now ≡ p = read_twice c.self.inside.ports.items c.args.place c.index-2.result.now p less c.index-2.ensures c.index_mut-2.ensures.value in
    let asked : c.index.result.now ≡ p = read_twice c.self.inside.ports.items c.args.place c.index.result.now p less c.index.ensures c.index_mut-2.ensures.value in
    let none : p.shown ≡ None = subst (λ (y : Port). y.shown ≡ None) asked (c.if-not-is_free.ensures.0 refl) in
    let its : m.home ≡ c.in-Some.home = c.in-Some.ensures.some.1 in
    let again : c.index_mut-in-Ok.result.now ≡ record m { hand = None; home = None } = read_set c.self.inside.ractors.items c.args.place c.take.new.self c.index_mut-in-Ok.result.now lt c.index_mut-in-Ok.ensures.value ∙ c.in-Some.ensures.some.2 in
    let waiting : c.wait.new.self ≡ record m { hand = None; ticket = waits_under m.home c.in-Ok.ticket } = c.wait.ensures
    ∙ ap (λ (y : Member). let z : Member = record y { hand = None; home = c.in-Some.home; ticket = waits_under c.in-Some.home c.in-Ok.ticket; plan = None; published = None } in z) again
    ∙ ap (λ h. let z : Member = record m { hand = None; home = h; ticket = waits_under h c.in-Ok.ticket; plan = None; published = None } in z) (sym its)
    ∙ ap (λ e. let z : Member = record m { hand = None; ticket = waits_under m.home c.in-Ok.ticket; plan = e; published = None } in z) (sym c.in-Some.ensures.planless.0)
    ∙ ap (λ e. let z : Member = record m { hand = None; ticket = waits_under m.home c.in-Ok.ticket; published = e } in z) (sym c.in-Some.ensures.planless.1) in
    shown_under w _ c.args.who c.args.place m p c.show.new.self x
    (read_at c.self.inside.ractors.items w.ractors c.args.place m vs c.requires.within c.index_mut.ensures.value)
    (read_at c.self.inside.ports.items w.channels.ports c.args.place p ps within c.index_mut-2.ensures.value)
    c.in-Some.ensures.some.0 none c.requires.stands
    c.in-Ok.ticket d.ticket.0
    (record {
      room = d.ticket.2;
      unshut = d.ticket.1;
      none = none;
      tickets = subst (λ (y : Port). IsTicketed y) told c.history-events.ensures.tickets;
      shown = d.shown;
      last = d.last;
      given = d.given;
      closed = d.closed;
      next = d.next;
      history = d.history ∙ ap (λ t. p.history ++ event.Shown t (size_of x) c.args.who ∷ []) d.ticket.0;
      limit = d.limit;
    })
    (subst (λ h. ForSome h (λ (y : Home). IsHomeOf y x)) (sym its) c.in-Some.ensures.fits.0)
    (set_twice c.self.inside.ractors.items c.args.place c.take.new.self c.wait.new.self ∙ set_in c.self.inside.ractors.items w.ractors c.args.place c.wait.new.self (record m { hand = None; ticket = waits_under m.home c.in-Ok.ticket }) vs waiting)
    (ports_put (ap (λ (v : Assembly). v.channels.store) c.self.view_is) (ap (λ (v : Assembly). v.channels.inboxes) c.self.view_is) (set_in c.self.inside.ports.items w.channels.ports c.args.place c.show.new.self c.show.new.self ps refl))

pub returns-in-Err : goal.returns-in-Err
returns-in-Err c =
    let w = c.args.self.now in
    let vs : c.self.inside.ractors.items ≡ w.ractors = ap (λ (v : Assembly). v.ractors) c.self.view_is in
    let ps : c.self.inside.ports.items ≡ w.channels.ports = ap (λ (v : Assembly). v.channels.ports) c.self.view_is in
    let m = c.index_mut.result.now in
    let p = c.index_mut-2.result.now in
    let d = c.in-Err.ensures in
    let x = c.in-Some.message in
    let held : m.hand ≡ Some x = c.in-Some.ensures.some.0 in
    let at : slice_get w.ractors c.args.place ≡ Some m = read_at c.self.inside.ractors.items w.ractors c.args.place m vs c.requires.within c.index_mut.ensures.value in
    let lt : c.args.place < length c.self.inside.ractors.items = omega (arith, ap length vs, c.requires.within) in
    let less : c.args.place < length c.self.inside.ports.items = omega (arith, c.len.ensures, c.if-place-len.false) in
    let within : c.args.place < length w.channels.ports = let many = ap length ps in omega (arith, less, many) in
    let asked : c.index.result.now ≡ p = read_twice c.self.inside.ports.items c.args.place c.index.result.now p less c.index.ensures c.index_mut-2.ensures.value in
    let none : p.shown ≡ None = subst (λ (y : Port). y.shown ≡ None) asked (c.if-not-is_free.ensures.0 refl) in
    let again : c.index_mut-in-Err.result.now ≡ record m { hand = None; home = None } = read_set c.self.inside.ractors.items c.args.place c.take.new.self c.index_mut-in-Err.result.now lt c.index_mut-in-Err.ensures.value ∙ c.in-Some.ensures.some.2 in
    let same : c.hold.new.self ≡ m = c.hold.ensures ∙ ap (λ (y : Member). let z : Member = record y { hand = Some c.in-Err.message; home = c.in-Some.home; ticket = None; plan = None; published = None } in z) again
    ∙ ap (λ h. let z : Member = record m { hand = h; home = c.in-Some.home; ticket = None; plan = None; published = None } in z) (ap (λ (y : Packed). Some y) d.back ∙ sym held)
    ∙ ap (λ h. let z : Member = record m { home = h; ticket = None; plan = None; published = None } in z) (sym c.in-Some.ensures.some.1)
    ∙ ap (λ t. let z : Member = record m { ticket = t; plan = None; published = None } in z) (sym c.in-Some.ensures.alone)
    ∙ ap (λ e. let z : Member = record m { plan = e; published = None } in z) (sym c.in-Some.ensures.planless.0)
    ∙ ap (λ e. let z : Member = record m { published = e } in z) (sym c.in-Some.ensures.planless.1) in
    show_refused w _ c.args.who c.args.place m p c.show.new.self x at
    (read_at c.self.inside.ports.items w.channels.ports c.args.place p ps within c.index_mut-2.ensures.value)
    held none c.requires.stands
    (set_twice_again c.self.inside.ractors.items w.ractors c.args.place c.take.new.self c.hold.new.self m vs at same)
    (ports_put (ap (λ (v : Assembly). v.channels.store) c.self.view_is) (ap (λ (v : Assembly). v.channels.inboxes) c.self.view_is) (set_in c.self.inside.ports.items w.channels.ports c.args.place c.show.new.self c.show.new.self ps refl))
    c.in-Err.fault c.in-Err.message
    (record { shown = d.shown ∙ sym none; last = d.last; given = d.given; closed = d.closed; next = d.next; history = d.history; limit = d.limit })
    d.fault
