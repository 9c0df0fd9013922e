-- What are not two integers is a call of the left operand.
use Rattle.std.proofs.Common.{◌∙◌, [], refl, length}
use Rattle.rr_eval.specs.Turns.{context_of}
use Rattle.rr_eval.specs.Views.{view_of}
use Rattle.rr_eval.specs.Within.{reach, IsReached}
use Rattle.rr_eval.proofs.Holding.{all_cons, all_nil}
use Rattle.rr_eval.proofs.QuickRequests.{operator_asked}
use Rattle.rr_eval.proofs.engine.Engine.ask_operator.Goals as goal

pub returns-clause-goes : goal.returns-clause-goes
returns-clause-goes c h =
    let p = c.args.prepared.now.program in
    let t = c.args.space.now in
    let m = view_of c.take_top.new.self in
    c.take_top.ensures.goes p t h
    ∙ operator_asked p m t c.args.op c.args.left c.args.value h m.left (c.if-not-is_called.ensures refl (context_of p)) (c.if-not-is_asked_for.ensures refl)

pub returns-clause-asks : goal.returns-clause-asks
returns-clause-asks c clusters h =
    let k = reach (length c.args.space.now.slots) clusters in
    record { receiver = c.take_top.ensures.frame k h; arguments = all_cons (IsReached k) c.args.value [] (c.take_top.ensures.given k h) (all_nil (IsReached k)) }
