use Rattle.std.proofs.Common.{◌≡◌, ◌++◌, ◌∷◌, [], ap, refl, sym, ◌∙◌, subst, slice_get, Some, None, length, ◌<◌, arith}
use Rattle.rr_base.specs.declared.event.InboxEvent.TheVariants as event
use Rattle.rr_copy.specs.Messages.{size_of}
use Rattle.rr_space.specs.Tables.{Packed}
use Rattle.rr_inbox.specs.Inboxes.{Inbox, IsTicketed}
use Rattle.rr_world.specs.Views.{Member, Assembly}
use Rattle.rr_world.specs.declared.step.Action.TheVariants.{Offer}
use Rattle.rr_world.proofs.Offering.{offered_under}
use Rattle.rr_world.proofs.Refusals.{offer_refused}
use Rattle.rr_world.proofs.Insides.{aside, assembly, channels, channels_same, read_at, read_twice, read_set, set_in, set_again, set_twice_again, same_assembly}
use Rattle.rr_world.proofs.Staying.{refused}
use Rattle.rr_world.proofs.Enabled.{allowed, holds_not}
use Rattle.rr_world.specs.Runs.{HasOutcome}
use Rattle.rr_world.specs.declared.step.Reply.TheVariants.{Offered}
use Rattle.std.specs.Prelude.{slice_set}
use Rattle.rr_world.proofs.world.World.offer.Goals.{in-Some-1, in-None-1}
use Rattle.rr_world.proofs.world.World.offer.Goals as goal

pub returns-in_default : goal.returns-in_default
returns-in_default c =
    let w = c.args.self.now in
    let m = c.index_mut.result.now in
    let vs : c.self.inside.ractors.items ≡ w.ractors = ap (λ (v : Assembly). v.ractors) c.self.view_is in
    let is : c.self.inside.inboxes.items ≡ w.channels.inboxes = ap (λ (v : Assembly). v.channels.inboxes) c.self.view_is in
    let at : slice_get w.ractors c.args.place ≡ Some m = read_at c.self.inside.ractors.items w.ractors c.args.place m vs c.requires.within c.index_mut.ensures.value in
    let none : m.hand ≡ None = c.in_default.ensures.none.0 in
    let same : c.take.new.self ≡ m = c.in_default.ensures.none.1 in
    refused (record { who = c.args.who; action = Offer c.args.to }) w _
    (same_assembly _ _ _ _ (set_again c.self.inside.ractors.items w.ractors c.args.place c.take.new.self m vs at same) (channels_same (ap aside c.self.view_is) is))
    (λ names g e. holds_not names c.args.place m none (allowed w names g (record { who = c.args.who; action = Offer c.args.to }) c.args.place m c.requires.stands at e).0)

pub returns-in-Ok : goal.returns-in-Ok
returns-in-Ok c =
    let w = c.args.self.now in
    let m = c.index_mut.result.now in
    let i = c.index_mut-2.result.now in
    let d = c.in-Ok.ensures in
    let vs : c.self.inside.ractors.items ≡ w.ractors = ap (λ (v : Assembly). v.ractors) c.self.view_is in
    let is : c.self.inside.inboxes.items ≡ w.channels.inboxes = ap (λ (v : Assembly). v.channels.inboxes) c.self.view_is in
    let lt : c.args.inbox < length c.self.inside.inboxes.items = omega (arith, ap length is, c.requires.is_inbox) in
    let one : c.index.result.now ≡ i = read_twice c.self.inside.inboxes.items c.args.inbox c.index.result.now i lt c.index.ensures c.index_mut-2.ensures.value in
    let made : Assembly = assembly (slice_set c.self.inside.ractors.items c.args.place c.take.new.self) (channels (c.self.inside.store, c.self.inside.ports.items) (slice_set c.self.inside.inboxes.items c.args.inbox c.offer.new.self)) in
    let is_made : c.match-home.self ≡ made = elim c.match-home.branch [ in-Some-1 z ↦ z.self-is | in-None-1 z ↦ z.self-is ] in
    subst (λ (v : Assembly). HasOutcome (record { who = c.args.who; action = Offer c.args.to }) (Offered c.in-Ok.ticket) w v) (sym is_made)
    (offered_under w made c.args.who c.args.place c.args.inbox m i c.offer.new.self c.in-Some.message
    (read_at c.self.inside.ractors.items w.ractors c.args.place m vs c.requires.within c.index_mut.ensures.value)
    (read_at c.self.inside.inboxes.items w.channels.inboxes c.args.inbox i is c.requires.is_inbox c.index_mut-2.ensures.value)
    c.in-Some.ensures.some.0
    (record {
      room = d.ticket.2;
      unshut = d.ticket.1;
      tickets = subst (λ (x : Inbox). IsTicketed x) one c.history-events.ensures.tickets;
      inside = d.inside;
      closed = d.closed;
      next = d.next;
      history = d.history ∙ ap (λ t. i.history ++ event.Offered t (size_of c.in-Some.message) c.args.who ∷ []) d.ticket.0;
      limit = d.limit;
    })
    (set_in c.self.inside.ractors.items w.ractors c.args.place c.take.new.self (record m { hand = None; home = None }) vs c.in-Some.ensures.some.2)
    (channels_same (ap aside c.self.view_is) (set_in c.self.inside.inboxes.items w.channels.inboxes c.args.inbox c.offer.new.self c.offer.new.self is refl))
    c.args.to c.in-Ok.ticket d.ticket.0 c.requires.stands c.requires.there)

pub returns-in-Err : goal.returns-in-Err
returns-in-Err c =
    let w = c.args.self.now in
    let m = c.index_mut.result.now in
    let i = c.index_mut-2.result.now in
    let d = c.in-Err.ensures in
    let p = c.in-Some.message in
    let held : m.hand ≡ Some p = c.in-Some.ensures.some.0 in
    let vs : c.self.inside.ractors.items ≡ w.ractors = ap (λ (v : Assembly). v.ractors) c.self.view_is in
    let is : c.self.inside.inboxes.items ≡ w.channels.inboxes = ap (λ (v : Assembly). v.channels.inboxes) c.self.view_is in
    let at : slice_get w.ractors c.args.place ≡ Some m = read_at c.self.inside.ractors.items w.ractors c.args.place m vs c.requires.within c.index_mut.ensures.value in
    let lt : c.args.place < length c.self.inside.ractors.items = omega (arith, ap length vs, c.requires.within) in
    let again : c.index_mut-in-Err.result.now ≡ record m { hand = None; home = None } = read_set c.self.inside.ractors.items c.args.place c.take.new.self c.index_mut-in-Err.result.now lt c.index_mut-in-Err.ensures.value ∙ c.in-Some.ensures.some.2 in
    let same : c.hold.new.self ≡ m = c.hold.ensures ∙ ap (λ (x : Member). let y : Member = record x { hand = Some c.in-Err.message; home = c.in-Some.home; ticket = None; plan = None; published = None } in y) again
    ∙ ap (λ h. let y : Member = record m { hand = h; home = c.in-Some.home; ticket = None; plan = None; published = None } in y) (ap (λ (x : Packed). Some x) d.back ∙ sym held)
    ∙ ap (λ h. let y : Member = record m { home = h; ticket = None; plan = None; published = None } in y) (sym c.in-Some.ensures.some.1)
    ∙ ap (λ h. let y : Member = record m { ticket = h; plan = None; published = None } in y) (sym c.in-Some.ensures.alone)
    ∙ ap (λ e. let y : Member = record m { plan = e; published = None } in y) (sym c.in-Some.ensures.planless.0)
    ∙ ap (λ e. let y : Member = record m { published = e } in y) (sym c.in-Some.ensures.planless.1) in
    offer_refused w _ c.args.who c.args.to c.args.place c.args.inbox m i c.offer.new.self p at
    (read_at c.self.inside.inboxes.items w.channels.inboxes c.args.inbox i is c.requires.is_inbox c.index_mut-2.ensures.value)
    held
    (set_twice_again c.self.inside.ractors.items w.ractors c.args.place c.take.new.self c.hold.new.self m vs at same)
    (channels_same (ap aside c.self.view_is) (set_in c.self.inside.inboxes.items w.channels.inboxes c.args.inbox c.offer.new.self c.offer.new.self is refl))
    c.requires.stands c.requires.there c.in-Err.fault c.in-Err.message
    (record { inside = d.inside; closed = d.closed; next = d.next; history = d.history; limit = d.limit })
    d.fault
