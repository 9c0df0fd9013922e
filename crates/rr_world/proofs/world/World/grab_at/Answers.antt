use Rattle.std.proofs.Common.{◌≡◌, ap, refl, sym, ◌∙◌, subst, slice_get, Some, None, length, ◌<◌, arith}
use Rattle.std.proofs.lemmas.Bool.{false≢true}
use Rattle.rr_port.specs.Ports.{Port, IsTicketed}
use Rattle.rr_world.specs.Views.{Member, Assembly, IsFree}
use Rattle.rr_world.specs.declared.step.Action.TheVariants.{Grab}
use Rattle.rr_world.proofs.PortGoing.{nothing_grabbed, something_grabbed}
use Rattle.rr_world.proofs.Insides.{ports_put, read_at, read_twice, set_in, set_again, same_assembly}
use Rattle.rr_world.proofs.Staying.{refused}
use Rattle.rr_world.proofs.Enabled.{allowed, free_back}
use Rattle.rr_world.proofs.world.World.grab_at.Goals as goal

pub returns-then-not-is_free : goal.returns-then-not-is_free
returns-then-not-is_free c =
    let w = c.args.self.now in
    let m = c.index.result.now in
    let vs : c.self.inside.ractors.items ≡ w.ractors = ap (λ (v : Assembly). v.ractors) c.self.view_is in
    let at : slice_get w.ractors c.args.place ≡ Some m = read_at c.self.inside.ractors.items w.ractors c.args.place m vs c.requires.within c.index.ensures in
    let no : IsFree m → ⊥ = λ none. absurd (false≢true (c.if-not-is_free.ensures.1 none)) in
    refused (record { who = c.args.who; action = Grab c.args.to }) w w refl
    (λ names g e. no (free_back names c.args.place m (allowed w names g (record { who = c.args.who; action = Grab c.args.to }) c.args.place m c.requires.stands at e).0))

pub returns-in-Ok : goal.returns-in-Ok
returns-in-Ok c =
    let w = c.args.self.now in
    let vs : c.self.inside.ractors.items ≡ w.ractors = ap (λ (v : Assembly). v.ractors) c.self.view_is in
    let ps : c.self.inside.ports.items ≡ w.channels.ports = ap (λ (v : Assembly). v.channels.ports) c.self.view_is in
    let m = c.index_mut-in-Ok.result.now in
    let p = c.index_mut.result.now in
    let lt : c.args.place < length c.self.inside.ractors.items = omega (arith, ap length vs, c.requires.within) in
    let less : c.args.port < length c.self.inside.ports.items = omega (arith, ap length ps, c.requires.is_port) in
    let one : c.index.result.now ≡ m = read_twice c.self.inside.ractors.items c.args.place c.index.result.now m lt c.index.ensures c.index_mut-in-Ok.ensures.value in
    let same : c.index-2.result.now ≡ p = read_twice c.self.inside.ports.items c.args.port c.index-2.result.now p less c.index-2.ensures c.index_mut.ensures.value in
    let none : IsFree m = subst (λ (x : Member). IsFree x) one (c.if-not-is_free.ensures.0 refl) in
    something_grabbed w _ c.args.who c.args.to c.args.place c.args.port m p c.grab.new.self
    (read_at c.self.inside.ractors.items w.ractors c.args.place m vs c.requires.within c.index_mut-in-Ok.ensures.value)
    (read_at c.self.inside.ports.items w.channels.ports c.args.port p ps c.requires.is_port c.index_mut.ensures.value)
    none
    (subst (λ (x : Port). IsTicketed x) same c.history-events.ensures.tickets)
    c.requires.stands c.requires.there
    (ports_put (ap (λ (v : Assembly). v.channels.store) c.self.view_is) (ap (λ (v : Assembly). v.channels.inboxes) c.self.view_is) (set_in c.self.inside.ports.items w.channels.ports c.args.port c.grab.new.self c.grab.new.self ps refl))
    c.grab.result c.in-Ok.message c.in-Ok.reply (sym c.in-Ok.ensures) c.grab.ensures.grabs
    (set_in c.self.inside.ractors.items w.ractors c.args.place c.hold.new.self (record m { hand = Some c.in-Ok.message }) vs
    (c.hold.ensures ∙ ap (λ x. let y : Member = record m { hand = Some c.in-Ok.message; home = x; ticket = None; plan = None; published = None } in y) (sym none.home) ∙ ap (λ x. let y : Member = record m { hand = Some c.in-Ok.message; ticket = x; plan = None; published = None } in y) (sym none.ticket) ∙ ap (λ x. let y : Member = record m { hand = Some c.in-Ok.message; plan = x; published = None } in y) (sym none.plan) ∙ ap (λ x. let y : Member = record m { hand = Some c.in-Ok.message; published = x } in y) (sym none.published)))

pub returns-in-Err : goal.returns-in-Err
returns-in-Err c =
    let w = c.args.self.now in
    let vs : c.self.inside.ractors.items ≡ w.ractors = ap (λ (v : Assembly). v.ractors) c.self.view_is in
    let ps : c.self.inside.ports.items ≡ w.channels.ports = ap (λ (v : Assembly). v.channels.ports) c.self.view_is in
    let m = c.index.result.now in
    let p = c.index_mut.result.now in
    let at : slice_get w.ractors c.args.place ≡ Some m = read_at c.self.inside.ractors.items w.ractors c.args.place m vs c.requires.within c.index.ensures in
    let port : slice_get w.channels.ports c.args.port ≡ Some p = read_at c.self.inside.ports.items w.channels.ports c.args.port p ps c.requires.is_port c.index_mut.ensures.value in
    nothing_grabbed w _ c.args.who c.args.to c.args.place c.args.port m p c.grab.new.self c.grab.result c.in-Err.reply at port (c.if-not-is_free.ensures.0 refl) c.requires.stands c.requires.there
    (sym c.in-Err.ensures) c.grab.ensures.grabs
    (λ kept. same_assembly _ _ _ _ vs (ports_put (ap (λ (v : Assembly). v.channels.store) c.self.view_is) (ap (λ (v : Assembly). v.channels.inboxes) c.self.view_is) (set_again c.self.inside.ports.items w.channels.ports c.args.port c.grab.new.self p ps port kept)))
