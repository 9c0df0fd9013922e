use Rattle.std.proofs.Common.{◌≡◌, Some, slice_get, refl, ap, ◌∙◌, subst}
use Rattle.rr_base.specs.declared.event.StoreEvent.TheVariants as event
use Rattle.rr_store.specs.Stores.{Store}
use Rattle.rr_store.specs.Answers.{SetRefusal}
use Rattle.rr_store.specs.declared.constant.ConstValue.TheVariants.{Own}
use Rattle.rr_world.specs.Views.{Assembly}
use Rattle.rr_world.proofs.Storing.{IsStored, may_not_set_own, own_set, own_refused}
use Rattle.rr_world.proofs.Insides.{sides_same, channels_same, same_assembly, read_at}
use Rattle.rr_world.proofs.world.World.set_own.Goals as goal

pub returns-in-Err : goal.returns-in-Err
returns-in-Err c =
    let w = c.args.self.now in
    let vs : c.self.inside.ractors.items ≡ w.ractors = ap (λ (v : Assembly). v.ractors) c.self.view_is in
    let st : c.self.inside.store ≡ w.channels.store = ap (λ (v : Assembly). v.channels.store) c.self.view_is in
    let m = c.index.result.now in
    let at : slice_get w.ractors c.args.place ≡ Some m = read_at c.self.inside.ractors.items w.ractors c.args.place m vs c.requires.within c.index.ensures in
    own_refused w _ c.args.who c.args.place m c.args.name c.in-Err.fault at c.if-has_published.ensures.none c.requires.stands
    (same_assembly _ _ _ _ vs (channels_same (sides_same (c.in-Err.ensures.refused.0 ∙ st) (ap (λ (v : Assembly). v.channels.ports) c.self.view_is)) (ap (λ (v : Assembly). v.channels.inboxes) c.self.view_is)))
    (subst (λ (s : Store). SetRefusal c.in-Err.fault s c.args.who Own) st c.in-Err.ensures.refused.1)

pub returns : goal.returns
returns c =
    let w = c.args.self.now in
    let vs : c.self.inside.ractors.items ≡ w.ractors = ap (λ (v : Assembly). v.ractors) c.self.view_is in
    let st : c.self.inside.store ≡ w.channels.store = ap (λ (v : Assembly). v.channels.store) c.self.view_is in
    let m = c.index.result.now in
    let at : slice_get w.ractors c.args.place ≡ Some m = read_at c.self.inside.ractors.items w.ractors c.args.place m vs c.requires.within c.index.ensures in
    let d = c.in_default.ensures in
    own_set w _ c.args.who c.args.place m c.args.name at c.if-has_published.ensures.none c.requires.stands d.set.2 vs (ap (λ (v : Assembly). v.channels.inboxes) c.self.view_is) (ap (λ (v : Assembly). v.channels.ports) c.self.view_is)
    (subst (λ (s : Store). IsStored c.args.name Own (event.Own c.args.name c.args.who) s c.set_const.new.self) st
    (record { set = d.set.0; room = d.set.1; history = d.history; limit = d.limit; clusters = d.clusters }))

pub returns-then-has_published : goal.returns-then-has_published
returns-then-has_published c =
    let w = c.args.self.now in
    let vs : c.self.inside.ractors.items ≡ w.ractors = ap (λ (v : Assembly). v.ractors) c.self.view_is in
    may_not_set_own w w c.args.who c.args.place c.index.result.now c.args.name
    (read_at c.self.inside.ractors.items w.ractors c.args.place c.index.result.now vs c.requires.within c.index.ensures)
    c.requires.stands refl c.if-has_published.ensures.holds
