-- The task is asked with the values that stand for the frame and the last one.
use Rattle.std.proofs.Common.{◌∙◌, ◌++◌, ◌∷◌, [], ap, refl}
use Rattle.rr_eval.specs.Requests.{arguments_of}
use Rattle.rr_eval.specs.Script.{Does}
use Rattle.rr_eval.specs.Views.{view_of}
use Rattle.rr_eval.proofs.Holding.{given_within, held_reached}
use Rattle.rr_eval.proofs.QuickTasks.{task_waits}
use Rattle.rr_eval.proofs.engine.Engine.ask_done.Goals as goal

pub returns-clause-goes : goal.returns-clause-goes
returns-clause-goes c h =
    let p = c.args.prepared.now.program in
    let t = c.args.space.now in
    let x = c.args.value in
    let vs = arguments_of c.in-Ok.values in
    let all = c.in-Ok.ensures.are ∙ ap (λ l. l ++ x ∷ []) c.standing.ensures.is in
    c.take_waiting.ensures.asks p t (Does c.args.task vs t) (task_waits p (view_of c.args.self.now) t c.args.frame c.args.task x vs c.requires.waits all (c.if-not-asks_nobody.ensures refl vs)) h

pub returns-clause-asks : goal.returns-clause-asks
returns-clause-asks c k h =
    let m = view_of c.args.self.now in
    c.in-Ok.ensures.within k (c.standing.ensures.within k (held_reached k m h)) (given_within k m _ c.requires.control h)
