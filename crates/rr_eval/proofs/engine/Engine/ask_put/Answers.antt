-- The values of the call are those that stand for the frame and the last one.
use Rattle.std.proofs.Common.{◌∙◌, ◌++◌, ◌∷◌, [], ap, refl, length}
use Rattle.rr_eval.specs.Requests.{arguments_of}
use Rattle.rr_eval.specs.Views.{view_of}
use Rattle.rr_eval.specs.Within.{reach, IsReached}
use Rattle.rr_eval.proofs.Holding.{all_cons, all_nil, given_within, held_reached}
use Rattle.rr_eval.proofs.QuickRequests.{put_waits}
use Rattle.rr_eval.proofs.engine.Engine.ask_put.Goals as goal

pub returns-clause-goes : goal.returns-clause-goes
returns-clause-goes c h =
    let p = c.args.prepared.now.program in
    let t = c.args.space.now in
    let v = c.args.value in
    let vs = arguments_of c.in-Some.arguments in
    let first = c.first_value-receiver.result in
    let asked = c.if-not-is_asked_for.ensures refl in
    let all = ap (λ u. u ∷ vs) c.first_value-receiver.ensures.is ∙ c.in-Some.ensures.are ∙ ap (λ l. l ++ v ∷ []) c.standing-stand.ensures.is in
    c.take_waiting.ensures.goes p t c.args.callee first vs
    (put_waits p (view_of c.args.self.now) t c.args.base v first vs c.args.callee asked.joins all)
    asked h

pub returns-clause-asks : goal.returns-clause-asks
returns-clause-asks c clusters h =
    let k = reach (length c.args.space.now.slots) clusters in
    let m = view_of c.args.self.now in
    let stand = c.standing-stand.ensures.within k (held_reached k m h) in
    let last = given_within k m _ c.requires.control h in
    record { receiver = c.first_value-receiver.ensures.within k stand (all_cons (IsReached k) c.args.value [] last (all_nil (IsReached k))); arguments = c.in-Some.ensures.within k stand last }
