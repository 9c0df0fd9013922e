use Rattle.std.proofs.Common.{◌≡◌, Some, ap, sym, ◌∙◌, subst, refl, length, arith}
use Rattle.rr_store.specs.Stores.{Store, IsPublic, constant_of}
use Rattle.rr_store.specs.Answers.{GetRefusal, MayGet}
use Rattle.rr_store.specs.declared.constant.ConstValue.{ConstValue}
use Rattle.rr_world.specs.Views.{Assembly}
use Rattle.rr_world.specs.declared.step.Action.TheVariants.{GetConst}
use Rattle.rr_world.proofs.Staying.{replied}
use Rattle.rr_world.proofs.Storing.{got_by, of_main, get_refused}
use Rattle.rr_world.proofs.Rooting.{within_more}
use Rattle.rr_world.proofs.Insides.{read_at, set_in, some_at}
use Rattle.rr_world.proofs.world.World.get_const.Goals as goal

pub join-requires : goal.join-requires
join-requires c = within_more 0 (length c.index_mut.result.now.space.slots) c.in-Ok-Shareable.value (omega arith) (subst IsPublic c.in-Ok-Shareable.field-0-is c.in-Ok-Shareable.ensures.public)

pub returns-in-Ok-Shareable : goal.returns-in-Ok-Shareable
returns-in-Ok-Shareable c =
    let w = c.args.self.now in
    let vs : c.self.inside.ractors.items ≡ w.ractors = ap (λ (v : Assembly). v.ractors) c.self.view_is in
    let st : c.self.inside.store ≡ w.channels.store = ap (λ (v : Assembly). v.channels.store) c.self.view_is in
    replied (record { who = c.args.who; action = GetConst c.args.name }) c.join.result _ w _ c.reply.ensures
    (got_by w _ c.args.who c.args.place c.index_mut.result.now c.join.new.self c.args.name c.in-Ok-Shareable.value c.join.result
    (read_at c.self.inside.ractors.items w.ractors c.args.place c.index_mut.result.now vs c.requires.within c.index_mut.ensures.value)
    c.requires.stands
    (ap (λ (s : Store). constant_of s c.args.name) (sym st) ∙ c.in-Ok-Shareable.ensures.value ∙ ap (λ (x : ConstValue). Some x) c.in-Ok-Shareable.field-0-is)
    (subst IsPublic c.in-Ok-Shareable.field-0-is c.in-Ok-Shareable.ensures.public)
    (set_in c.self.inside.ractors.items w.ractors c.args.place c.join.new.self c.join.new.self vs refl)
    (ap (λ (v : Assembly). v.channels) c.self.view_is) c.join.ensures)

pub returns-in-Ok-Own : goal.returns-in-Ok-Own
returns-in-Ok-Own c =
    let w = c.args.self.now in
    let st : c.self.inside.store ≡ w.channels.store = ap (λ (v : Assembly). v.channels.store) c.self.view_is in
    let someone = some_at w.ractors c.args.place c.requires.within in
    of_main w _ c.args.who c.args.place someone.0 c.args.name someone.1 c.requires.stands refl
    (ap (λ (s : Store). constant_of s c.args.name) (sym st) ∙ c.in-Ok-Own.ensures.value ∙ ap (λ (x : ConstValue). Some x) c.in-Ok-Own.field-0-is)
    (subst (MayGet c.args.who) c.in-Ok-Own.field-0-is c.in-Ok-Own.ensures.may)

pub returns-in-Err : goal.returns-in-Err
returns-in-Err c =
    let w = c.args.self.now in
    let st : c.self.inside.store ≡ w.channels.store = ap (λ (v : Assembly). v.channels.store) c.self.view_is in
    let someone = some_at w.ractors c.args.place c.requires.within in
    get_refused w _ c.args.who c.args.place someone.0 c.args.name c.in-Err.fault someone.1 c.requires.stands refl
    (subst (λ (s : Store). GetRefusal c.in-Err.fault s c.args.who c.args.name) st c.in-Err.ensures.fault)
