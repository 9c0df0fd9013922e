use Rattle.std.proofs.Common.{◌≡◌, ◌<◌, Some, None, length, arith, slice_get, ap, ◌∙◌, subst, refl}
use Rattle.rr_base.specs.declared.event.StoreEvent.TheVariants as event
use Rattle.rr_store.specs.Stores.{Store}
use Rattle.rr_store.specs.Answers.{SetRefusal}
use Rattle.rr_store.specs.declared.constant.ConstValue.TheVariants.{Shareable}
use Rattle.rr_world.specs.Views.{Assembly, Member}
use Rattle.rr_world.proofs.Storing.{IsStored, constant_set, may_not_set, not_set, set_refused}
use Rattle.rr_world.proofs.Insides.{sides_same, read_at, read_twice, channels_same, same_assembly}
use Rattle.rr_world.proofs.world.World.set_const.Goals as goal

pub returns-in_default : goal.returns-in_default
returns-in_default c =
    let w = c.args.self.now in
    let vs : c.self.inside.ractors.items ≡ w.ractors = ap (λ (v : Assembly). v.ractors) c.self.view_is in
    let lt : c.args.place < length c.self.inside.ractors.items = omega (arith, ap length vs, c.requires.within) in
    let one : c.index.result.now ≡ c.index-2.result.now = read_twice c.self.inside.ractors.items c.args.place c.index.result.now c.index-2.result.now lt c.index.ensures c.index-2.ensures in
    let plain : c.index-2.result.now.published ≡ None = subst (λ (m : Member). m.published ≡ None) one c.if-has_published.ensures.none in
    not_set w _ c.args.who c.args.place c.index-2.result.now c.args.name c.args.value
    (read_at c.self.inside.ractors.items w.ractors c.args.place c.index-2.result.now vs c.requires.within c.index-2.ensures)
    plain c.requires.stands refl c.in_default.ensures.none

pub returns-in-Err : goal.returns-in-Err
returns-in-Err c =
    let w = c.args.self.now in
    let vs : c.self.inside.ractors.items ≡ w.ractors = ap (λ (v : Assembly). v.ractors) c.self.view_is in
    let lt : c.args.place < length c.self.inside.ractors.items = omega (arith, ap length vs, c.requires.within) in
    let one : c.index.result.now ≡ c.index-2.result.now = read_twice c.self.inside.ractors.items c.args.place c.index.result.now c.index-2.result.now lt c.index.ensures c.index-2.ensures in
    let plain : c.index-2.result.now.published ≡ None = subst (λ (m : Member). m.published ≡ None) one c.if-has_published.ensures.none in
    let st : c.self.inside.store ≡ w.channels.store = ap (λ (v : Assembly). v.channels.store) c.self.view_is in
    let at : slice_get w.ractors c.args.place ≡ Some c.index-2.result.now = read_at c.self.inside.ractors.items w.ractors c.args.place c.index-2.result.now vs c.requires.within c.index-2.ensures in
    set_refused w _ c.args.who c.args.place c.index-2.result.now c.args.name c.args.value c.in-Some.value c.in-Err.fault at plain c.requires.stands c.in-Some.ensures.some
    (same_assembly _ _ _ _ vs (channels_same (sides_same (c.in-Err.ensures.refused.0 ∙ st) (ap (λ (v : Assembly). v.channels.ports) c.self.view_is)) (ap (λ (v : Assembly). v.channels.inboxes) c.self.view_is)))
    (subst (λ (s : Store). SetRefusal c.in-Err.fault s c.args.who (Shareable c.in-Some.value)) st c.in-Err.ensures.refused.1)

pub returns : goal.returns
returns c =
    let w = c.args.self.now in
    let vs : c.self.inside.ractors.items ≡ w.ractors = ap (λ (v : Assembly). v.ractors) c.self.view_is in
    let lt : c.args.place < length c.self.inside.ractors.items = omega (arith, ap length vs, c.requires.within) in
    let one : c.index.result.now ≡ c.index-2.result.now = read_twice c.self.inside.ractors.items c.args.place c.index.result.now c.index-2.result.now lt c.index.ensures c.index-2.ensures in
    let plain : c.index-2.result.now.published ≡ None = subst (λ (m : Member). m.published ≡ None) one c.if-has_published.ensures.none in
    let st : c.self.inside.store ≡ w.channels.store = ap (λ (v : Assembly). v.channels.store) c.self.view_is in
    let at : slice_get w.ractors c.args.place ≡ Some c.index-2.result.now = read_at c.self.inside.ractors.items w.ractors c.args.place c.index-2.result.now vs c.requires.within c.index-2.ensures in
    let d = c.in_default-set_const.ensures in
    constant_set w _ c.args.who c.args.place c.index-2.result.now c.args.name c.args.value c.in-Some.value at plain c.requires.stands c.in-Some.ensures.some
    vs (ap (λ (v : Assembly). v.channels.inboxes) c.self.view_is) (ap (λ (v : Assembly). v.channels.ports) c.self.view_is)
    (subst (λ (s : Store). IsStored c.args.name (Shareable c.in-Some.value) (event.Shared c.args.name c.args.who) s c.set_const.new.self) st
    (record { set = d.set.0; room = d.set.1; history = d.history; limit = d.limit; clusters = d.clusters }))

pub returns-then-has_published : goal.returns-then-has_published
returns-then-has_published c =
    let w = c.args.self.now in
    let vs : c.self.inside.ractors.items ≡ w.ractors = ap (λ (v : Assembly). v.ractors) c.self.view_is in
    may_not_set w w c.args.who c.args.place c.index.result.now c.args.name c.args.value
    (read_at c.self.inside.ractors.items w.ractors c.args.place c.index.result.now vs c.requires.within c.index.ensures)
    c.requires.stands refl c.if-has_published.ensures.holds
