-- The frame is taken off the stack, and gets the object.
use Rattle.std.proofs.Common.{◌∙◌, None, Some, length, subst, sym}
use Rattle.rr_eval.specs.Acts.{Passes}
use Rattle.rr_eval.specs.Script.{objects_of}
use Rattle.rr_eval.specs.Within.{reach}
use Rattle.rr_eval.proofs.Raises.{on_err}
use Rattle.rr_eval.proofs.engine.Engine.give_to_top.Goals as goal

pub give_object-requires-clause-within : goal.give_object-requires-clause-within
give_object-requires-clause-within c = c.take_top.ensures.within (reach (length c.args.space.now.slots) None) c.requires.within

pub returns-clause-goes : goal.returns-clause-goes
returns-clause-goes c h = c.take_top.ensures.goes c.args.prepared.now.program c.args.space.now h ∙ c.give_object.ensures.goes h

pub returns-clause-within : goal.returns-clause-within
returns-clause-within c clusters h =
    let k = reach (length c.args.space.now.slots) clusters in
    c.give_object.ensures.within clusters (c.take_top.ensures.within k h) (c.take_top.ensures.frame k h)

pub returns-clause-read : goal.returns-clause-read
returns-clause-read c below read h = c.give_object.ensures.read below read (c.take_top.ensures.within (reach (length c.args.space.now.slots) (Some below)) h)

pub returns-clause-full : goal.returns-clause-full
returns-clause-full c =
    let p = c.args.prepared.now.program in
    let t = c.args.space.now in
    on_err c.give_object.result _ _ (λ f passes h adds. subst (λ o. Passes f t.limit (objects_of o)) (sym (c.take_top.ensures.goes p t h)) (passes h adds)) c.give_object.ensures.full
