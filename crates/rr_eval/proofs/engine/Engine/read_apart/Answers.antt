-- A part reads what it is taken for.
use Rattle.std.proofs.Common.{◌≡◌, false, refl, sym, subst, ◌∷◌, []}
use Rattle.rr_parser.specs.Grammar.Names.{is_splat}
use Rattle.rr_builtin.specs.Fields.{field_at}
use Rattle.rr_eval.specs.declared.call.Callee.TheVariants.{Name}
use Rattle.rr_eval.specs.declared.call.Target.TheVariants.{Call}
use Rattle.rr_eval.specs.declared.problem.Response.TheVariants.{Gives}
use Rattle.rr_eval.specs.Constants.{plain_constant}
use Rattle.rr_eval.specs.Fields.{field_response}
use Rattle.rr_eval.specs.Rules.{finish}
use Rattle.rr_eval.specs.SimpleParts.{IsApart}
use Rattle.rr_eval.specs.Turns.{context_of}
use Rattle.rr_eval.specs.Usual.{GivesAtOnce, TakesNow}
use Rattle.rr_eval.specs.Views.{view_of}
use Rattle.rr_eval.proofs.Readings.{attribute_plain, attribute_read, constant_takes, field_takes, global_takes}
use Rattle.rr_eval.proofs.engine.Engine.read_apart.Goals as goal

pub returns-in-Some-clause-takes : goal.returns-in-Some-clause-takes
returns-in-Some-clause-takes c = λ links tree is.
    let p = c.args.prepared.now.program in
    let m = view_of c.args.self.now in
    let t = c.args.space.now in
    let x = c.in-Field.name in
    let v = c.in-Some.value in
    let here = subst (IsApart p links tree) c.in-Field.is is in
    let holds = subst (λ o. field_response t (field_at t o x.0) ≡ Gives v) c.itself.ensures.value c.in-Some.ensures.is in
    subst (λ a. TakesNow p m t a 1 v) (sym here) (field_takes p m t x v holds)

pub returns-in-Some-clause-plain : goal.returns-in-Some-clause-plain
returns-in-Some-clause-plain c = λ links tree is. subst (λ a. is_splat a ≡ false) (sym (subst (IsApart c.args.prepared.now.program links tree) c.in-Field.is is)) refl

pub returns-in-Some-clause-within : goal.returns-in-Some-clause-within
returns-in-Some-clause-within c clusters h = c.in-Some.ensures.within clusters

pub returns-in-Some-attribute_of-clause-takes : goal.returns-in-Some-attribute_of-clause-takes
returns-in-Some-attribute_of-clause-takes c = λ links tree is.
    let p = c.args.prepared.now.program in
    let m = view_of c.args.self.now in
    let t = c.args.space.now in
    let x = c.in-Attribute.name in
    let v = c.in-Some-attribute_of.value in
    let here = subst (IsApart p links tree) c.in-Attribute.is is in
    let gives = subst (λ r. GivesAtOnce p t (finish (context_of p) (Call (Name x)) (r ∷ [])) v) c.variable.ensures.value c.in-Some-attribute_of.ensures.reads in
    attribute_read p m t tree c.in-Attribute.variable x v here gives

pub returns-in-Some-attribute_of-clause-plain : goal.returns-in-Some-attribute_of-clause-plain
returns-in-Some-attribute_of-clause-plain c = λ links tree is. attribute_plain tree c.in-Attribute.variable c.in-Attribute.name.0 (subst (IsApart c.args.prepared.now.program links tree) c.in-Attribute.is is)

pub returns-in-Some-attribute_of-clause-within : goal.returns-in-Some-attribute_of-clause-within
returns-in-Some-attribute_of-clause-within c clusters h = c.in-Some-attribute_of.ensures.within clusters

pub returns-in-Some-global_of-clause-takes : goal.returns-in-Some-global_of-clause-takes
returns-in-Some-global_of-clause-takes c = λ links tree is.
    let p = c.args.prepared.now.program in
    let m = view_of c.args.self.now in
    let t = c.args.space.now in
    let v = c.in-Some-global_of.value in
    let here = subst (IsApart p links tree) c.in-Global.is is in
    subst (λ a. TakesNow p m t a 1 v) (sym here) (global_takes p m t c.in-Global.name v c.in-Some-global_of.ensures.main c.in-Some-global_of.ensures.is)

pub returns-in-Some-global_of-clause-plain : goal.returns-in-Some-global_of-clause-plain
returns-in-Some-global_of-clause-plain c = λ links tree is. subst (λ a. is_splat a ≡ false) (sym (subst (IsApart c.args.prepared.now.program links tree) c.in-Global.is is)) refl

pub returns-in-Some-global_of-clause-within : goal.returns-in-Some-global_of-clause-within
returns-in-Some-global_of-clause-within c clusters h = c.in-Some-global_of.ensures.within clusters

pub returns-in-Some-constant_of-clause-takes : goal.returns-in-Some-constant_of-clause-takes
returns-in-Some-constant_of-clause-takes c = λ links tree is.
    let p = c.args.prepared.now.program in
    let m = view_of c.args.self.now in
    let t = c.args.space.now in
    let x = c.in-Constant.name in
    let v = c.in-Some-constant_of.value in
    let here = subst (IsApart p links tree) c.in-Constant.is is in
    let gives = subst (λ o. GivesAtOnce p t (plain_constant (context_of p) o x) v) (sym here.1) (c.in-Some-constant_of.ensures.is p here.2) in
    subst (λ a. TakesNow p m t a 1 v) (sym here.0) (constant_takes p m t x v gives)

pub returns-in-Some-constant_of-clause-plain : goal.returns-in-Some-constant_of-clause-plain
returns-in-Some-constant_of-clause-plain c = λ links tree is. subst (λ a. is_splat a ≡ false) (sym (subst (IsApart c.args.prepared.now.program links tree) c.in-Constant.is is).0) refl

pub returns-in-Some-constant_of-clause-within : goal.returns-in-Some-constant_of-clause-within
returns-in-Some-constant_of-clause-within c clusters h = c.in-Some-constant_of.ensures.within clusters
