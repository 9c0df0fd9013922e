-- An operator of two integers is done here, and any other call is sent.
use Rattle.std.proofs.Common.{◌∙◌, ap, sym, subst, arith, length, None}
use Rattle.std.specs.List.{All}
use Rattle.rr_frames.specs.Frames.{list_of}
use Rattle.rr_space.specs.declared.refer.Ref.TheVariants.{Nil}
use Rattle.rr_eval.specs.Dispatch.{part_called, send_rule}
use Rattle.rr_eval.specs.Turns.{context_of, after_script}
use Rattle.rr_eval.specs.Views.{view_of}
use Rattle.rr_eval.specs.Within.{reach, IsReached}
use Rattle.rr_eval.proofs.CallParts.{part_sent, part_alone}
use Rattle.rr_eval.proofs.Invoking.{if_ok}
use Rattle.rr_eval.proofs.engine.Engine.call_part.Goals as goal

pub returns-in-Operator-clause-within : goal.returns-in-Operator-clause-within
returns-in-Operator-clause-within c clusters h receiver argument =
    let k = reach (length c.args.space.now.slots) clusters in
    let values = subst (λ w. All (IsReached k) (list_of w)) c.in-Some.is argument in
    c.operate.ensures.within clusters h receiver (values 0 Nil (omega arith))

pub returns-in-Operator-clause-asks : goal.returns-in-Operator-clause-asks
returns-in-Operator-clause-asks c k h receiver argument =
    let values = subst (λ w. All (IsReached k) (list_of w)) c.in-Some.is argument in
    c.operate.ensures.asks k h receiver (values 0 Nil (omega arith))

pub returns-in_default-clause-goes : goal.returns-in_default-clause-goes
returns-in_default-clause-goes c =
    let own = context_of c.args.prepared.now.program in
    let does = after_script c.args.prepared.now.program (view_of c.args.self.now) c.args.space.now in
    if_ok c.send.result _ _
    (λ q goes h n.
    ap (λ w. does (part_called own c.args.callee c.args.receiver (list_of w)) h n) c.in-Some.is
    ∙ ap (λ r. does r h n) (part_sent own c.args.callee c.args.receiver c.in-Some.value c.in_default.not-Operator)
    ∙ ap (λ w. does (send_rule own c.args.callee None c.args.receiver (list_of w)) h n) (sym c.in-Some.is)
    ∙ goes h n)
    c.send.ensures.goes

pub returns-in-None-clause-goes : goal.returns-in-None-clause-goes
returns-in-None-clause-goes c =
    let own = context_of c.args.prepared.now.program in
    let does = after_script c.args.prepared.now.program (view_of c.args.self.now) c.args.space.now in
    if_ok c.send-in-None.result _ _
    (λ q goes h n.
    ap (λ w. does (part_called own c.args.callee c.args.receiver (list_of w)) h n) c.in-None.is
    ∙ ap (λ r. does r h n) (part_alone own c.args.callee c.args.receiver)
    ∙ ap (λ w. does (send_rule own c.args.callee None c.args.receiver (list_of w)) h n) (sym c.in-None.is)
    ∙ goes h n)
    c.send-in-None.ensures.goes
