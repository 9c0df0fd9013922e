use Rattle.std.proofs.Common.{◌≡◌, ap, refl}
use Rattle.rr_world.specs.Views.{Assembly}
use Rattle.rr_world.proofs.PortTelling.{port_closed_by}
use Rattle.rr_world.proofs.Insides.{ports_put, read_at, set_in, some_at}
use Rattle.rr_world.proofs.world.World.close_port_at.Goals as goal

pub returns : goal.returns
returns c =
    let w = c.args.self.now in
    let p = c.index_mut.result.now in
    let is : c.self.inside.ports.items ≡ w.channels.ports = ap (λ (v : Assembly). v.channels.ports) c.self.view_is in
    let someone = some_at w.ractors c.args.place c.requires.within in
    port_closed_by w _ c.args.who c.args.to c.args.place c.args.port someone.0 p c.close.new.self c.close.result someone.1
    (read_at c.self.inside.ports.items w.channels.ports c.args.port p is c.requires.is_port c.index_mut.ensures.value)
    (ap (λ (v : Assembly). v.ractors) c.self.view_is)
    (ports_put (ap (λ (v : Assembly). v.channels.store) c.self.view_is) (ap (λ (v : Assembly). v.channels.inboxes) c.self.view_is) (set_in c.self.inside.ports.items w.channels.ports c.args.port c.close.new.self c.close.new.self is refl))
    c.close.ensures.after c.close.ensures.answer c.requires.stands c.requires.there
