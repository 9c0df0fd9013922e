-- A target gets a value by what it is.
use Rattle.std.proofs.Common.{◌∙◌, ap, subst, length, []}
use Rattle.rr_eval.specs.Several.{put_in}
use Rattle.rr_eval.specs.Turns.{context_of, after_script}
use Rattle.rr_eval.specs.Views.{view_of}
use Rattle.rr_eval.specs.Within.{reach, IsReached, IsSpotReached}
use Rattle.rr_eval.proofs.Holding.{all_cons, all_nil}
use Rattle.rr_eval.proofs.Invoking.{if_ok}
use Rattle.rr_eval.proofs.engine.Engine.put_in.Goals as goal

pub returns-in-Field-clause-goes : goal.returns-in-Field-clause-goes
returns-in-Field-clause-goes c h n =
    let p = c.args.prepared.now.program in
    let t = c.args.space.now in
    ap (λ x. after_script p (view_of c.args.self.now) t (put_in (context_of p) x c.args.value) h n) c.in-Field.is ∙ c.ask_field.ensures.asks p t h n

pub returns-in-Global-clause-goes : goal.returns-in-Global-clause-goes
returns-in-Global-clause-goes c h n =
    let p = c.args.prepared.now.program in
    let t = c.args.space.now in
    ap (λ x. after_script p (view_of c.args.self.now) t (put_in (context_of p) x c.args.value) h n) c.in-Global.is ∙ c.ask_global.ensures.goes p h n

pub returns-in-Constant-clause-goes : goal.returns-in-Constant-clause-goes
returns-in-Constant-clause-goes c h n =
    let p = c.args.prepared.now.program in
    let t = c.args.space.now in
    ap (λ x. after_script p (view_of c.args.self.now) t (put_in (context_of p) x c.args.value) h n) c.in-Constant.is ∙ c.ask_set_constant.ensures.asks p t h n

pub returns-in-Attribute-clause-goes : goal.returns-in-Attribute-clause-goes
returns-in-Attribute-clause-goes c =
    let p = c.args.prepared.now.program in
    let t = c.args.space.now in
    if_ok c.send.result _ _
    (λ q goes h n. ap (λ x. after_script p (view_of c.args.self.now) t (put_in (context_of p) x c.args.value) h n) c.in-Attribute.is ∙ goes h n)
    c.send.ensures.goes

pub returns-in-Element-clause-goes : goal.returns-in-Element-clause-goes
returns-in-Element-clause-goes c =
    let p = c.args.prepared.now.program in
    let t = c.args.space.now in
    if_ok c.send_element.result _ _
    (λ q goes h n. ap (λ x. after_script p (view_of c.args.self.now) t (put_in (context_of p) x c.args.value) h n) c.in-Element.is ∙ goes h n)
    c.send_element.ensures.goes

pub returns-in-Attribute-clause-within : goal.returns-in-Attribute-clause-within
returns-in-Attribute-clause-within c clusters h spot value =
    let k = reach (length c.args.space.now.slots) clusters in
    c.send.ensures.within clusters h (subst (IsSpotReached k) c.in-Attribute.is spot) (all_cons (IsReached k) c.args.value [] value (all_nil (IsReached k)))

pub returns-in-Element-clause-within : goal.returns-in-Element-clause-within
returns-in-Element-clause-within c clusters h spot value =
    let there = subst (IsSpotReached (reach (length c.args.space.now.slots) clusters)) c.in-Element.is spot in
    c.send_element.ensures.within clusters h there.0 there.1 value

pub returns-in-Attribute-clause-asks : goal.returns-in-Attribute-clause-asks
returns-in-Attribute-clause-asks c k h spot value = c.send.ensures.asks k h (subst (IsSpotReached k) c.in-Attribute.is spot) (all_cons (IsReached k) c.args.value [] value (all_nil (IsReached k)))

pub returns-in-Element-clause-asks : goal.returns-in-Element-clause-asks
returns-in-Element-clause-asks c k h spot value =
    let there = subst (IsSpotReached k) c.in-Element.is spot in
    c.send_element.ensures.asks k h there.0 there.1 value

pub returns-in-Field-clause-asks : goal.returns-in-Field-clause-asks
returns-in-Field-clause-asks c k h spot value = c.ask_field.ensures.within k h value

pub returns-in-Global-clause-asks : goal.returns-in-Global-clause-asks
returns-in-Global-clause-asks c k h spot value = c.ask_global.ensures.asks k value

pub returns-in-Constant-clause-asks : goal.returns-in-Constant-clause-asks
returns-in-Constant-clause-asks c k h spot value = c.ask_set_constant.ensures.within k value
