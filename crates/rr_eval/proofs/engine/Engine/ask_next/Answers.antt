-- The argument is evaluated at once.
use Rattle.std.proofs.Common.{◌∷◌, [], arith, length, refl}
use Rattle.rr_eval.specs.Views.{view_of}
use Rattle.rr_eval.specs.Within.{reach, IsReached}
use Rattle.rr_eval.proofs.Holding.{all_cons, all_nil, given_within}
use Rattle.rr_eval.proofs.QuickRequests.{next_waits}
use Rattle.rr_eval.proofs.engine.Engine.ask_next.Goals as goal

pub returns-clause-goes : goal.returns-clause-goes
returns-clause-goes c h =
    let p = c.args.prepared.now.program in
    let t = c.args.space.now in
    let last = c.in-Some.last in
    c.take_waiting.ensures.goes p t c.args.callee c.args.value (last.value ∷ [])
    (next_waits p (view_of c.args.self.now) t c.args.end c.args.base c.saturating_sub.result last.steps c.args.value last.value c.args.callee (omega arith) (omega arith) c.in-Some.ensures.takes)
    (c.if-not-is_asked_for.ensures refl) h

pub returns-clause-asks : goal.returns-clause-asks
returns-clause-asks c clusters h =
    let k = reach (length c.args.space.now.slots) clusters in
    let m = view_of c.args.self.now in
    record { receiver = given_within k m _ c.requires.control h; arguments = all_cons (IsReached k) c.in-Some.last.value [] (c.in-Some.ensures.within clusters h) (all_nil (IsReached k)) }
