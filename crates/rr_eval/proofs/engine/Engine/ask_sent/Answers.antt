-- A call that comes next is asked, which is one step.
use Rattle.std.proofs.Common.{◌∙◌, ◌-◌, ap, arith, refl, subst, sym, length}
use Rattle.std.specs.List.{All}
use Rattle.rr_eval.specs.Script.{Calls}
use Rattle.rr_eval.specs.Turns.{asking_with, context_of}
use Rattle.rr_eval.specs.Views.{view_of}
use Rattle.rr_eval.specs.Within.{reach, IsReached}
use Rattle.rr_eval.proofs.CallParts.{call_reached}
use Rattle.rr_eval.proofs.Holding.{with_left}
use Rattle.rr_eval.proofs.QuickRequests.{part_asked}
use Rattle.rr_eval.proofs.engine.Engine.ask_sent.Goals as goal

pub returns-clause-goes : goal.returns-clause-goes
returns-clause-goes c h =
    let p = c.args.prepared.now.program in
    let t = c.args.space.now in
    let m = view_of c.args.self.now in
    part_asked p m t c.args.callee c.args.receiver c.args.argument h c.requires.control (omega arith) (c.if-not-is_sent.ensures refl (context_of p)) (c.if-not-is_asked_for.ensures refl)
    ∙ ap (λ vs. asking_with p m t (Calls c.args.receiver c.args.callee vs) h (m.left - 1)) (sym c.one_or_none.ensures)

pub returns-clause-within : goal.returns-clause-within
returns-clause-within c clusters h = with_left (reach (length c.args.space.now.slots) clusters) (view_of c.args.self.now) _ h

pub returns-clause-asks : goal.returns-clause-asks
returns-clause-asks c clusters h =
    let k = reach (length c.args.space.now.slots) clusters in
    let there = call_reached k (view_of c.args.self.now) c.args.callee c.args.receiver c.args.argument c.requires.control h in
    record { receiver = there.0; arguments = subst (All (IsReached k)) (sym c.one_or_none.ensures) there.1 }
