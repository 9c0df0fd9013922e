use Rattle.std.proofs.Common.{◌≡◌, ap, refl}
use Rattle.rr_world.specs.Views.{Assembly}
use Rattle.rr_world.proofs.Refusals.{closed_by}
use Rattle.rr_world.proofs.Insides.{aside, channels_same, read_at, set_in, some_at}
use Rattle.rr_world.proofs.world.World.close.Goals as goal

pub returns : goal.returns
returns c =
    let w = c.args.self.now in
    let i = c.index_mut.result.now in
    let is : c.self.inside.inboxes.items ≡ w.channels.inboxes = ap (λ (v : Assembly). v.channels.inboxes) c.self.view_is in
    let someone = some_at w.ractors c.args.place c.requires.within in
    closed_by w _ c.args.who c.args.to c.args.place c.args.inbox someone.0 i c.close.new.self c.close.result someone.1
    (read_at c.self.inside.inboxes.items w.channels.inboxes c.args.inbox i is c.requires.is_inbox c.index_mut.ensures.value)
    (ap (λ (v : Assembly). v.ractors) c.self.view_is)
    (channels_same (ap aside c.self.view_is) (set_in c.self.inside.inboxes.items w.channels.inboxes c.args.inbox c.close.new.self c.close.new.self is refl))
    c.close.ensures.after c.close.ensures.answer c.requires.stands c.requires.there
