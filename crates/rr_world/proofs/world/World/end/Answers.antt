use Rattle.std.proofs.Common.{◌≡◌, ap, subst, refl}
use Rattle.rr_world.specs.Views.{Assembly}
use Rattle.rr_world.specs.Starting.{IsOver}
use Rattle.rr_world.proofs.Ending.{ended}
use Rattle.rr_world.proofs.Insides.{read_at, set_in}
use Rattle.rr_world.proofs.world.World.end.Goals as goal

pub returns : goal.returns
returns c =
    let w = c.args.self.now in
    let m = c.index_mut.result.now in
    let vs : c.self.inside.ractors.items ≡ w.ractors = ap (λ (v : Assembly). v.ractors) c.self.view_is in
    ended w _ c.args.place m c.end.new.self
    (read_at c.self.inside.ractors.items w.ractors c.args.place m vs c.requires.within c.index_mut.ensures.value)
    (subst (λ n. IsOver m.limits n c.end.new.self) c.requires.stands c.end.ensures)
    (set_in c.self.inside.ractors.items w.ractors c.args.place c.end.new.self c.end.new.self vs refl)
    (ap (λ (v : Assembly). v.channels) c.self.view_is) c.args.who c.requires.stands
