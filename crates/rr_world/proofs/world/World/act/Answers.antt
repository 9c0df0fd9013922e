use Rattle.std.proofs.Common.{◌≡◌, ap, refl}
use Rattle.rr_world.specs.Views.{Assembly}
use Rattle.rr_world.proofs.Acts.{acted}
use Rattle.rr_world.proofs.Insides.{read_at, set_in}
use Rattle.rr_world.proofs.Staying.{replied}
use Rattle.rr_world.proofs.world.World.act.Goals as goal

pub returns : goal.returns
returns c =
    let w = c.args.self.now in
    let m = c.index_mut-ractor.result.now in
    let vs : c.self.inside.ractors.items ≡ w.ractors = ap (λ (v : Assembly). v.ractors) c.self.view_is in
    replied (record { who = c.args.who; action = c.args.action }) c.act.result _ w _ c.reply.ensures
    (acted c.shown_by_moving.ensures.moved c.shown_by_moving.ensures.undone w _ c.args.who c.args.place m c.act.new.self c.args.action c.act.result
    (read_at c.self.inside.ractors.items w.ractors c.args.place m vs c.requires.within c.index_mut-ractor.ensures.value)
    (set_in c.self.inside.ractors.items w.ractors c.args.place c.act.new.self c.act.new.self vs refl)
    (ap (λ (v : Assembly). v.channels) c.self.view_is) c.requires.stands c.requires.alone c.act.ensures)
