use Rattle.std.proofs.Common.{◌≡◌, ◌<◌, Some, slice_get, length, ap, sym, ◌∙◌, subst, arith}
use Rattle.rr_space.specs.Tables.{Whole}
use Rattle.rr_share.specs.declared.planned.Plan.{Plan}
use Rattle.rr_store.specs.Stores.{Store}
use Rattle.rr_store.specs.Answers.{PublishRefusal, numbered_next}
use Rattle.rr_world.specs.Views.{Assembly}
use Rattle.rr_world.specs.declared.step.Action.TheVariants.{Publish}
use Rattle.rr_world.proofs.Enabled.{allowed}
use Rattle.rr_world.proofs.Insides.{channels_same, read_at, read_set, same_assembly, set_again, set_in, set_twice_again, sides_same}
use Rattle.rr_world.proofs.Lists.{set_twice}
use Rattle.rr_world.proofs.PlanPublishing.{IsPublishedInto, kept_plan, kept_published, no_plan_held, publish_refused, published_plan, published_under, same_store, with_published}
use Rattle.rr_world.specs.Planning.{IsPlanTaken}
use Rattle.rr_world.proofs.Staying.{refused}
use Rattle.rr_world.proofs.world.World.publish.Goals as goal

pub returns-in_default : goal.returns-in_default
returns-in_default c =
    let w = c.args.self.now in
    let m = c.index_mut.result.now in
    let vs : c.self.inside.ractors.items ≡ w.ractors = ap (λ (v : Assembly). v.ractors) c.self.view_is in
    let at : slice_get w.ractors c.args.place ≡ Some m = read_at c.self.inside.ractors.items w.ractors c.args.place m vs c.requires.within c.index_mut.ensures.value in
    refused (record { who = c.args.who; action = Publish }) w _
    (same_assembly _ _ _ _ (set_again c.self.inside.ractors.items w.ractors c.args.place c.take_plan.new.self m vs at c.in_default.ensures.none.1) (ap (λ (v : Assembly). v.channels) c.self.view_is))
    (λ names g e. no_plan_held names c.args.place m c.in_default.ensures.none.0 (allowed w names g (record { who = c.args.who; action = Publish }) c.args.place m c.requires.stands at e))

pub returns-in-Ok : goal.returns-in-Ok
returns-in-Ok c =
    let w = c.args.self.now in
    let m = c.index_mut.result.now in
    let p = c.in-Some.plan in
    let T = c.in-Some.ensures.some in
    let d = c.in-Ok.ensures in
    let vs : c.self.inside.ractors.items ≡ w.ractors = ap (λ (v : Assembly). v.ractors) c.self.view_is in
    let st : c.self.inside.store ≡ w.channels.store = ap (λ (v : Assembly). v.channels.store) c.self.view_is in
    let lt : c.args.place < length c.self.inside.ractors.items = omega (arith, ap length vs, c.requires.within) in
    let again : c.index_mut-in-Ok.result.now ≡ c.take_plan.new.self = read_set c.self.inside.ractors.items c.args.place c.take_plan.new.self c.index_mut-in-Ok.result.now lt c.index_mut-in-Ok.ensures.value in
    let numbered : c.in-Ok.published.cluster.now ≡ numbered_next w.channels.store p.cluster = d.published.0 ∙ ap (λ (s : Store). numbered_next s p.cluster) st in
    let kept : c.keep_published.new.self ≡ with_published m (published_plan w.channels.store p) =
    kept_published m c.index_mut-in-Ok.result.now c.keep_published.new.self p w.channels.store c.in-Ok.published.cluster.now (subst (λ x. IsPlanTaken p m x) (sym again) T) numbered c.keep_published.ensures in
    published_under w _ c.args.who c.args.place m c.take_plan.new.self p
    (read_at c.self.inside.ractors.items w.ractors c.args.place m vs c.requires.within c.index_mut.ensures.value) T
    (set_twice c.self.inside.ractors.items c.args.place c.take_plan.new.self c.keep_published.new.self ∙ set_in c.self.inside.ractors.items w.ractors c.args.place c.keep_published.new.self (with_published m (published_plan w.channels.store p)) vs kept)
    (ap (λ (v : Assembly). v.channels.inboxes) c.self.view_is) (ap (λ (v : Assembly). v.channels.ports) c.self.view_is)
    (subst (λ (s : Store). IsPublishedInto c.args.who (numbered_next s p.cluster) s c.publish.new.self) st
    (record { room = d.published.1; clusters = d.clusters; constants = d.constants; limit = d.limit; history = d.history }))
    c.number.result (c.number.ensures ∙ ap (λ (x : Whole). x.number) numbered) c.requires.stands

pub returns-in-Err : goal.returns-in-Err
returns-in-Err c =
    let w = c.args.self.now in
    let m = c.index_mut.result.now in
    let p = c.in-Some.plan in
    let T = c.in-Some.ensures.some in
    let d = c.in-Err.ensures in
    let vs : c.self.inside.ractors.items ≡ w.ractors = ap (λ (v : Assembly). v.ractors) c.self.view_is in
    let st : c.self.inside.store ≡ w.channels.store = ap (λ (v : Assembly). v.channels.store) c.self.view_is in
    let at : slice_get w.ractors c.args.place ≡ Some m = read_at c.self.inside.ractors.items w.ractors c.args.place m vs c.requires.within c.index_mut.ensures.value in
    let lt : c.args.place < length c.self.inside.ractors.items = omega (arith, ap length vs, c.requires.within) in
    let again : c.index_mut-in-Err.result.now ≡ c.take_plan.new.self = read_set c.self.inside.ractors.items c.args.place c.take_plan.new.self c.index_mut-in-Err.result.now lt c.index_mut-in-Err.ensures.value in
    let same : c.keep_plan.new.self ≡ m =
    kept_plan m c.index_mut-in-Err.result.now c.keep_plan.new.self p (record { cluster = c.in-Err.cluster; places = p.places }) (subst (λ x. IsPlanTaken p m x) (sym again) T)
    (ap (λ x. let q : Plan = record { cluster = x; places = p.places } in q) d.back) c.keep_plan.ensures in
    publish_refused w _ c.args.who c.args.place m p c.in-Err.fault at T.held c.requires.stands
    (same_assembly _ _ _ _ (set_twice_again c.self.inside.ractors.items w.ractors c.args.place c.take_plan.new.self c.keep_plan.new.self m vs at same)
    (channels_same (sides_same (same_store c.self.inside.store c.publish.new.self d.clusters d.constants d.history d.limit ∙ st) (ap (λ (v : Assembly). v.channels.ports) c.self.view_is)) (ap (λ (v : Assembly). v.channels.inboxes) c.self.view_is)))
    (subst (PublishRefusal c.in-Err.fault) st d.fault)
