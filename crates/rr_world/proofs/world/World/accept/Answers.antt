use Rattle.std.proofs.Common.{◌≡◌, ◌++◌, ◌∷◌, [], ap, refl, sym, ◌∙◌, subst, slice_get, Some, None, length, ◌<◌, arith}
use Rattle.std.proofs.lemmas.Bool.{false≢true}
use Rattle.rr_base.specs.declared.event.InboxEvent.TheVariants as event
use Rattle.rr_copy.specs.Messages.{size_of}
use Rattle.rr_space.specs.Tables.{Packed}
use Rattle.rr_inbox.specs.Inboxes.{Inbox, IsTicketed}
use Rattle.rr_world.specs.Views.{Member, Assembly, IsFree}
use Rattle.rr_world.specs.declared.step.Action.TheVariants.{Accept}
use Rattle.rr_world.specs.declared.step.Reply.TheVariants.{Empty, EmptyAndClosed}
use Rattle.rr_world.proofs.Accepting.{accepted, less_first, nothing_open, nothing_closed}
use Rattle.rr_world.proofs.Insides.{aside, channels_same, read_at, read_twice, set_in, set_again, same_assembly, some_at}
use Rattle.rr_world.proofs.Staying.{refused, stays}
use Rattle.rr_world.proofs.Enabled.{allowed, no_inbox, free_back}
use Rattle.rr_world.proofs.world.World.accept.Goals as goal

pub returns-then-place-len : goal.returns-then-place-len
returns-then-place-len c =
    let w = c.args.self.now in
    let is : c.self.inside.inboxes.items ≡ w.channels.inboxes = ap (λ (v : Assembly). v.channels.inboxes) c.self.view_is in
    let someone = some_at w.ractors c.args.place c.requires.within in
    refused (record { who = c.args.who; action = Accept }) w w refl
    (λ names g e. no_inbox w names g c.args.who
    (λ k there. let same : k ≡ c.args.place = omega (arith, there, c.requires.stands) in let many = ap length is in omega (arith, c.len.ensures, c.if-place-len.true, same, many))
    (allowed w names g (record { who = c.args.who; action = Accept }) c.args.place someone.0 c.requires.stands someone.1 e).1)

pub returns-then-not-is_free : goal.returns-then-not-is_free
returns-then-not-is_free c =
    let w = c.args.self.now in
    let m = c.index.result.now in
    let vs : c.self.inside.ractors.items ≡ w.ractors = ap (λ (v : Assembly). v.ractors) c.self.view_is in
    let at : slice_get w.ractors c.args.place ≡ Some m = read_at c.self.inside.ractors.items w.ractors c.args.place m vs c.requires.within c.index.ensures in
    let no : IsFree m → ⊥ = λ none. absurd (false≢true (c.if-not-is_free.ensures.1 none)) in
    refused (record { who = c.args.who; action = Accept }) w w refl
    (λ names g e. no (free_back names c.args.place m (allowed w names g (record { who = c.args.who; action = Accept }) c.args.place m c.requires.stands at e).0))

pub returns-in-Message : goal.returns-in-Message
returns-in-Message c =
    let w = c.args.self.now in
    let m = c.index_mut-in-Message.result.now in
    let i = c.index_mut.result.now in
    let t = c.in-Message.ensures.takes in
    let vs : c.self.inside.ractors.items ≡ w.ractors = ap (λ (v : Assembly). v.ractors) c.self.view_is in
    let is : c.self.inside.inboxes.items ≡ w.channels.inboxes = ap (λ (v : Assembly). v.channels.inboxes) c.self.view_is in
    let lt : c.args.place < length c.self.inside.ractors.items = omega (arith, ap length vs, c.requires.within) in
    let many = ap length is in
    let less : c.args.place < length c.self.inside.inboxes.items = omega (arith, c.len.ensures, c.if-place-len.false) in
    let within : c.args.place < length w.channels.inboxes = omega (arith, less, many) in
    let one : c.index.result.now ≡ m = read_twice c.self.inside.ractors.items c.args.place c.index.result.now m lt c.index.ensures c.index_mut-in-Message.ensures.value in
    let box : c.index-2.result.now ≡ i = read_twice c.self.inside.inboxes.items c.args.place c.index-2.result.now i less c.index-2.ensures c.index_mut.ensures.value in
    let none : IsFree m = subst (λ (x : Member). IsFree x) one (c.if-not-is_free.ensures.0 refl) in
    accepted w _ c.args.who c.args.place m i t.0 c.accept.new.self.inside
    (read_at c.self.inside.ractors.items w.ractors c.args.place m vs c.requires.within c.index_mut-in-Message.ensures.value)
    (read_at c.self.inside.inboxes.items w.channels.inboxes c.args.place i is within c.index_mut.ensures.value)
    none
    (subst (λ (x : Inbox). IsTicketed x) box c.history-events.ensures.tickets)
    t.2
    (set_in c.self.inside.ractors.items w.ractors c.args.place c.hold.new.self (record m { hand = Some t.0.message }) vs
    (c.hold.ensures ∙ ap (λ (x : Packed). let y : Member = record m { hand = Some x; home = None; ticket = None; plan = None; published = None } in y) (sym t.1) ∙ ap (λ x. let y : Member = record m { hand = Some t.0.message; home = x; ticket = None; plan = None; published = None } in y) (sym none.home) ∙ ap (λ x. let y : Member = record m { hand = Some t.0.message; ticket = x; plan = None; published = None } in y) (sym none.ticket) ∙ ap (λ x. let y : Member = record m { hand = Some t.0.message; plan = x; published = None } in y) (sym none.plan) ∙ ap (λ x. let y : Member = record m { hand = Some t.0.message; published = x } in y) (sym none.published)))
    (channels_same (ap aside c.self.view_is) (set_in c.self.inside.inboxes.items w.channels.inboxes c.args.place c.accept.new.self (less_first i c.args.who t.0 c.accept.new.self.inside) is
    (t.3 ∙ ap (λ (x : Packed). let y : Inbox = record i { inside = c.accept.new.self.inside; history = i.history ++ event.Accepted t.0.ticket (size_of x) c.args.who ∷ [] } in y) (sym t.1))))
    c.requires.stands

pub returns-in-Empty : goal.returns-in-Empty
returns-in-Empty c =
    let w = c.args.self.now in
    let m = c.index.result.now in
    let i = c.index_mut.result.now in
    let t = c.in-Empty.ensures.takes in
    let vs : c.self.inside.ractors.items ≡ w.ractors = ap (λ (v : Assembly). v.ractors) c.self.view_is in
    let is : c.self.inside.inboxes.items ≡ w.channels.inboxes = ap (λ (v : Assembly). v.channels.inboxes) c.self.view_is in
    let at : slice_get w.ractors c.args.place ≡ Some m = read_at c.self.inside.ractors.items w.ractors c.args.place m vs c.requires.within c.index.ensures in
    let many = ap length is in
    let within : c.args.place < length w.channels.inboxes = omega (arith, c.len.ensures, c.if-place-len.false, many) in
    let box : slice_get w.channels.inboxes c.args.place ≡ Some i = read_at c.self.inside.inboxes.items w.channels.inboxes c.args.place i is within c.index_mut.ensures.value in
    stays (record { who = c.args.who; action = Accept }) Empty w _
    (same_assembly _ _ _ _ vs (channels_same (ap aside c.self.view_is) (set_again c.self.inside.inboxes.items w.channels.inboxes c.args.place c.accept.new.self i is box t.2)))
    (λ names g. nothing_open w names g c.args.who c.args.place m i at box (c.if-not-is_free.ensures.0 refl) c.requires.stands t.0 t.1)

pub returns-in-EmptyAndClosed : goal.returns-in-EmptyAndClosed
returns-in-EmptyAndClosed c =
    let w = c.args.self.now in
    let m = c.index.result.now in
    let i = c.index_mut.result.now in
    let t = c.in-EmptyAndClosed.ensures.takes in
    let vs : c.self.inside.ractors.items ≡ w.ractors = ap (λ (v : Assembly). v.ractors) c.self.view_is in
    let is : c.self.inside.inboxes.items ≡ w.channels.inboxes = ap (λ (v : Assembly). v.channels.inboxes) c.self.view_is in
    let at : slice_get w.ractors c.args.place ≡ Some m = read_at c.self.inside.ractors.items w.ractors c.args.place m vs c.requires.within c.index.ensures in
    let many = ap length is in
    let within : c.args.place < length w.channels.inboxes = omega (arith, c.len.ensures, c.if-place-len.false, many) in
    let box : slice_get w.channels.inboxes c.args.place ≡ Some i = read_at c.self.inside.inboxes.items w.channels.inboxes c.args.place i is within c.index_mut.ensures.value in
    stays (record { who = c.args.who; action = Accept }) EmptyAndClosed w _
    (same_assembly _ _ _ _ vs (channels_same (ap aside c.self.view_is) (set_again c.self.inside.inboxes.items w.channels.inboxes c.args.place c.accept.new.self i is box t.2)))
    (λ names g. nothing_closed w names g c.args.who c.args.place m i at box (c.if-not-is_free.ensures.0 refl) c.requires.stands t.0 t.1)
