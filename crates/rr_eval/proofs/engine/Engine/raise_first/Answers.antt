-- The exception gets the program's `initialize`, or not.
use Rattle.std.proofs.Common.{◌∙◌, ◌++◌, ◌∷◌, [], ap}
use Rattle.rr_eval.specs.Frames.{stand_of}
use Rattle.rr_eval.specs.RaisingNew.{class_raised}
use Rattle.rr_eval.specs.Turns.{context_of}
use Rattle.rr_eval.specs.Views.{view_of}
use Rattle.rr_eval.specs.Within.{IsReached}
use Rattle.rr_eval.proofs.Holding.{all_cons, all_nil, rescuing_reached}
use Rattle.rr_eval.proofs.RaisesNew.{raises_made, raises_other}
use Rattle.rr_eval.proofs.engine.Engine.raise_first.Goals as goal

pub returns-in_ok-begin_new-in-Some-clause-goes : goal.returns-in_ok-begin_new-in-Some-clause-goes
returns-in_ok-begin_new-in-Some-clause-goes c = λ h n.
    let p = c.args.prepared.now.program in
    let m = view_of c.args.self.now in
    let t = c.args.space.now in
    let vs = stand_of c.args.frame m.held ++ c.args.value ∷ [] in
    let finds = c.class_raised.ensures ∙ ap (λ l. class_raised (context_of p) (l ++ c.args.value ∷ [])) c.standing.ensures.is in
    raises_made p m t c.args.frame c.class_raised.result c.in-Some.class vs h n finds c.in-Some.is ∙ c.in_ok-begin_new-in-Some.ensures.goes p t h n

pub returns-in_ok-begin_new-in-Some-clause-within : goal.returns-in_ok-begin_new-in-Some-clause-within
returns-in_ok-begin_new-in-Some-clause-within c k h value = c.begin_new.ensures.within k h (rescuing_reached k (view_of c.args.self.now) h) (all_cons (IsReached k) c.args.value [] value (all_nil (IsReached k)))

pub returns-in_err-begin_new-in-Some-clause-within : goal.returns-in_err-begin_new-in-Some-clause-within
returns-in_err-begin_new-in-Some-clause-within c k h value = c.begin_new.ensures.within k h (rescuing_reached k (view_of c.args.self.now) h) (all_cons (IsReached k) c.args.value [] value (all_nil (IsReached k)))

pub returns-in-None-clause-goes : goal.returns-in-None-clause-goes
returns-in-None-clause-goes c = λ h n.
    let p = c.args.prepared.now.program in
    let m = view_of c.args.self.now in
    let t = c.args.space.now in
    let vs = stand_of c.args.frame m.held ++ c.args.value ∷ [] in
    let finds = c.class_raised.ensures ∙ ap (λ l. class_raised (context_of p) (l ++ c.args.value ∷ [])) c.standing.ensures.is in
    raises_other p m t c.args.frame c.class_raised.result vs h n finds c.in-None.is ∙ c.finish_raise.ensures.goes p h n
