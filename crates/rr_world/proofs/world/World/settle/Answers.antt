use Rattle.std.proofs.Common.{◌≡◌, ap, refl, length, ◌<◌, arith}
use Rattle.rr_world.specs.Views.{Assembly}
use Rattle.rr_world.specs.declared.step.Action.TheVariants.{Settle}
use Rattle.rr_world.proofs.PortShowing.{portless, settled_closed, settled_shown, settled_taken}
use Rattle.rr_world.proofs.Insides.{read_at, set_in, some_at}
use Rattle.rr_world.proofs.Staying.{refused}
use Rattle.rr_world.proofs.Enabled.{allowed}
use Rattle.rr_world.proofs.world.World.settle.Goals as goal

pub returns-then-place-len : goal.returns-then-place-len
returns-then-place-len c =
    let w = c.args.self.now in
    let ps : c.self.inside.ports.items ≡ w.channels.ports = ap (λ (v : Assembly). v.channels.ports) c.self.view_is in
    let someone = some_at w.ractors c.args.place c.requires.within in
    refused (record { who = c.args.who; action = Settle c.args.ticket }) w w refl
    (λ names g e. portless w names g c.args.who c.args.place (let many = ap length ps in omega (arith, c.len.ensures, c.if-place-len.true, many)) c.requires.stands
    (allowed w names g (record { who = c.args.who; action = Settle c.args.ticket }) c.args.place someone.0 c.requires.stands someone.1 e))

pub returns-in-Taken : goal.returns-in-Taken
returns-in-Taken c =
    let w = c.args.self.now in
    let vs : c.self.inside.ractors.items ≡ w.ractors = ap (λ (v : Assembly). v.ractors) c.self.view_is in
    let ps : c.self.inside.ports.items ≡ w.channels.ports = ap (λ (v : Assembly). v.channels.ports) c.self.view_is in
    let m = c.index_mut.result.now in
    let p = c.index.result.now in
    let within : c.args.place < length w.channels.ports = let many = ap length ps in omega (arith, c.len.ensures, c.if-place-len.false, many) in
    settled_taken w _ c.args.who c.args.place c.args.ticket m p
    (read_at c.self.inside.ractors.items w.ractors c.args.place m vs c.requires.within c.index_mut.ensures.value)
    (read_at c.self.inside.ports.items w.channels.ports c.args.place p ps within c.index.ensures)
    c.requires.stands
    c.forget.new.self c.in-Taken.ensures c.forget.ensures.waited c.forget.ensures.kept
    (set_in c.self.inside.ractors.items w.ractors c.args.place c.forget.new.self c.forget.new.self vs refl)
    (ap (λ (v : Assembly). v.channels) c.self.view_is)

pub returns-in-Shown : goal.returns-in-Shown
returns-in-Shown c =
    let w = c.args.self.now in
    let ps : c.self.inside.ports.items ≡ w.channels.ports = ap (λ (v : Assembly). v.channels.ports) c.self.view_is in
    let p = c.index.result.now in
    let within : c.args.place < length w.channels.ports = let many = ap length ps in omega (arith, c.len.ensures, c.if-place-len.false, many) in
    let someone = some_at w.ractors c.args.place c.requires.within in
    settled_shown w _ c.args.who c.args.place c.args.ticket someone.0 p someone.1
    (read_at c.self.inside.ports.items w.channels.ports c.args.place p ps within c.index.ensures)
    c.requires.stands c.in-Shown.ensures refl

pub returns-in-Closed : goal.returns-in-Closed
returns-in-Closed c =
    let w = c.args.self.now in
    let ps : c.self.inside.ports.items ≡ w.channels.ports = ap (λ (v : Assembly). v.channels.ports) c.self.view_is in
    let p = c.index.result.now in
    let within : c.args.place < length w.channels.ports = let many = ap length ps in omega (arith, c.len.ensures, c.if-place-len.false, many) in
    let someone = some_at w.ractors c.args.place c.requires.within in
    settled_closed w _ c.args.who c.args.place c.args.ticket someone.0 p someone.1
    (read_at c.self.inside.ports.items w.channels.ports c.args.place p ps within c.index.ensures)
    c.requires.stands c.in-Closed.ensures refl
