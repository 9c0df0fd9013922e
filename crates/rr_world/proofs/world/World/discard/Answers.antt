use Rattle.std.proofs.Common.{◌≡◌, ap, slice_get, Some, None}
use Rattle.rr_world.specs.Views.{Assembly}
use Rattle.rr_world.specs.declared.step.Action.TheVariants.{Discard}
use Rattle.rr_world.proofs.Discarding.{discarded}
use Rattle.rr_world.proofs.Insides.{aside, channels_same, read_at, set_in, set_again, same_assembly}
use Rattle.rr_world.proofs.Staying.{refused}
use Rattle.rr_world.proofs.Enabled.{allowed, holds_none}
use Rattle.rr_world.proofs.world.World.discard.Goals as goal

pub returns : goal.returns
returns c =
    let w = c.args.self.now in
    let m = c.index_mut.result.now in
    let vs : c.self.inside.ractors.items ≡ w.ractors = ap (λ (v : Assembly). v.ractors) c.self.view_is in
    let is : c.self.inside.inboxes.items ≡ w.channels.inboxes = ap (λ (v : Assembly). v.channels.inboxes) c.self.view_is in
    let at : slice_get w.ractors c.args.place ≡ Some m = read_at c.self.inside.ractors.items w.ractors c.args.place m vs c.requires.within c.index_mut.ensures.value in
    let gone = c.if-not-clear.ensures.gone in
    discarded w _ c.args.place m at
    (set_in c.self.inside.ractors.items w.ractors c.args.place c.clear.new.self (record m { hand = None; home = None; plan = None }) vs gone.1)
    (channels_same (ap aside c.self.view_is) is) c.args.who c.requires.stands gone.0

pub returns-then-not-clear : goal.returns-then-not-clear
returns-then-not-clear c =
    let w = c.args.self.now in
    let m = c.index_mut.result.now in
    let vs : c.self.inside.ractors.items ≡ w.ractors = ap (λ (v : Assembly). v.ractors) c.self.view_is in
    let is : c.self.inside.inboxes.items ≡ w.channels.inboxes = ap (λ (v : Assembly). v.channels.inboxes) c.self.view_is in
    let at : slice_get w.ractors c.args.place ≡ Some m = read_at c.self.inside.ractors.items w.ractors c.args.place m vs c.requires.within c.index_mut.ensures.value in
    let kept = c.if-not-clear.ensures.kept in
    refused (record { who = c.args.who; action = Discard }) w _
    (same_assembly _ _ _ _ (set_again c.self.inside.ractors.items w.ractors c.args.place c.clear.new.self m vs at kept.2) (channels_same (ap aside c.self.view_is) is))
    (λ names g e. holds_none names c.args.place m kept.0 kept.1 (allowed w names g (record { who = c.args.who; action = Discard }) c.args.place m c.requires.stands at e))
