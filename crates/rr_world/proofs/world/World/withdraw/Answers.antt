use Rattle.std.proofs.Common.{◌≡◌, ap, refl, subst, slice_get, Some, None, length, ◌<◌, arith}
use Rattle.std.proofs.lemmas.Bool.{false≢true}
use Rattle.rr_port.specs.Ports.{Port, IsTicketed}
use Rattle.rr_world.specs.Views.{Member, Assembly, MayHaveBack}
use Rattle.rr_world.specs.declared.step.Action.TheVariants.{Withdraw}
use Rattle.rr_world.proofs.PortShowing.{have_back, portless, withdraw_refused, withdrawn}
use Rattle.rr_world.proofs.Insides.{ports_put, read_at, read_twice, set_in, set_again, some_at}
use Rattle.rr_world.proofs.Staying.{refused}
use Rattle.rr_world.proofs.Enabled.{allowed}
use Rattle.rr_world.proofs.world.World.withdraw.Goals as goal

pub returns-then-place-len : goal.returns-then-place-len
returns-then-place-len c =
    let w = c.args.self.now in
    let ps : c.self.inside.ports.items ≡ w.channels.ports = ap (λ (v : Assembly). v.channels.ports) c.self.view_is in
    let someone = some_at w.ractors c.args.place c.requires.within in
    refused (record { who = c.args.who; action = Withdraw c.args.ticket }) w w refl
    (λ names g e. portless w names g c.args.who c.args.place (let many = ap length ps in omega (arith, c.len.ensures, c.if-place-len.true, many)) c.requires.stands
    (allowed w names g (record { who = c.args.who; action = Withdraw c.args.ticket }) c.args.place someone.0 c.requires.stands someone.1 e).1)

pub returns-then-not-can_take_back : goal.returns-then-not-can_take_back
returns-then-not-can_take_back c =
    let w = c.args.self.now in
    let m = c.index.result.now in
    let vs : c.self.inside.ractors.items ≡ w.ractors = ap (λ (v : Assembly). v.ractors) c.self.view_is in
    let at : slice_get w.ractors c.args.place ≡ Some m = read_at c.self.inside.ractors.items w.ractors c.args.place m vs c.requires.within c.index.ensures in
    refused (record { who = c.args.who; action = Withdraw c.args.ticket }) w w refl
    (λ names g e. absurd (false≢true (c.if-not-can_take_back.ensures.1
    (have_back names c.args.place c.args.ticket m (allowed w names g (record { who = c.args.who; action = Withdraw c.args.ticket }) c.args.place m c.requires.stands at e).0))))

pub returns-in-Ok : goal.returns-in-Ok
returns-in-Ok c =
    let w = c.args.self.now in
    let vs : c.self.inside.ractors.items ≡ w.ractors = ap (λ (v : Assembly). v.ractors) c.self.view_is in
    let ps : c.self.inside.ports.items ≡ w.channels.ports = ap (λ (v : Assembly). v.channels.ports) c.self.view_is in
    let m = c.index_mut-in-Ok.result.now in
    let p = c.index_mut.result.now in
    let lt : c.args.place < length c.self.inside.ractors.items = omega (arith, ap length vs, c.requires.within) in
    let less : c.args.place < length c.self.inside.ports.items = omega (arith, c.len.ensures, c.if-place-len.false) in
    let within : c.args.place < length w.channels.ports = let many = ap length ps in omega (arith, less, many) in
    let one : c.index.result.now ≡ m = read_twice c.self.inside.ractors.items c.args.place c.index.result.now m lt c.index.ensures c.index_mut-in-Ok.ensures.value in
    let told : c.index-2.result.now ≡ p = read_twice c.self.inside.ports.items c.args.place c.index-2.result.now p less c.index-2.ensures c.index_mut.ensures.value in
    let may : MayHaveBack m c.args.ticket = subst (λ (x : Member). MayHaveBack x c.args.ticket) one (c.if-not-can_take_back.ensures.0 refl) in
    withdrawn w _ c.args.who c.args.place c.args.ticket m p
    (read_at c.self.inside.ractors.items w.ractors c.args.place m vs c.requires.within c.index_mut-in-Ok.ensures.value)
    (read_at c.self.inside.ports.items w.channels.ports c.args.place p ps within c.index_mut.ensures.value)
    c.requires.stands
    c.withdraw.new.self c.in-Ok.message may
    (subst (λ (x : Port). IsTicketed x) told c.history-events.ensures.tickets)
    c.in-Ok.ensures.withdraws
    (λ own. set_in c.self.inside.ractors.items w.ractors c.args.place c.take_back.new.self (record m { hand = Some c.in-Ok.message; ticket = None }) vs (c.take_back.ensures.own own))
    (ports_put (ap (λ (v : Assembly). v.channels.store) c.self.view_is) (ap (λ (v : Assembly). v.channels.inboxes) c.self.view_is) (set_in c.self.inside.ports.items w.channels.ports c.args.place c.withdraw.new.self c.withdraw.new.self ps refl))

pub returns-in-Err : goal.returns-in-Err
returns-in-Err c =
    let w = c.args.self.now in
    let vs : c.self.inside.ractors.items ≡ w.ractors = ap (λ (v : Assembly). v.ractors) c.self.view_is in
    let ps : c.self.inside.ports.items ≡ w.channels.ports = ap (λ (v : Assembly). v.channels.ports) c.self.view_is in
    let m = c.index_mut-in-Err.result.now in
    let p = c.index_mut.result.now in
    let lt : c.args.place < length c.self.inside.ractors.items = omega (arith, ap length vs, c.requires.within) in
    let within : c.args.place < length w.channels.ports = let many = ap length ps in omega (arith, c.len.ensures, c.if-place-len.false, many) in
    let one : c.index.result.now ≡ m = read_twice c.self.inside.ractors.items c.args.place c.index.result.now m lt c.index.ensures c.index_mut-in-Err.ensures.value in
    let may : MayHaveBack m c.args.ticket = subst (λ (x : Member). MayHaveBack x c.args.ticket) one (c.if-not-can_take_back.ensures.0 refl) in
    let port : slice_get w.channels.ports c.args.place ≡ Some p = read_at c.self.inside.ports.items w.channels.ports c.args.place p ps within c.index_mut.ensures.value in
    withdraw_refused w _ c.args.who c.args.place c.args.ticket m p
    (read_at c.self.inside.ractors.items w.ractors c.args.place m vs c.requires.within c.index_mut-in-Err.ensures.value)
    port c.requires.stands
    c.forget.new.self c.withdraw.new.self c.in-Err.fault may c.in-Err.ensures.withdraws c.forget.ensures.waited c.forget.ensures.kept
    (set_in c.self.inside.ractors.items w.ractors c.args.place c.forget.new.self c.forget.new.self vs refl)
    (ports_put (ap (λ (v : Assembly). v.channels.store) c.self.view_is) (ap (λ (v : Assembly). v.channels.inboxes) c.self.view_is) (set_again c.self.inside.ports.items w.channels.ports c.args.place c.withdraw.new.self p ps port c.in-Err.ensures.withdraws.2))
