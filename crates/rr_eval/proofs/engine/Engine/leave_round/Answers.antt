-- A turn ends, and its frame goes.
use Rattle.std.proofs.Common.{◌∙◌, ap, sym, subst, reverse, take, drop, List}
use Rattle.rr_space.specs.declared.refer.Ref.{Ref}
use Rattle.rr_eval.specs.declared.frame.Frame.TheVariants.{Round, Turned as TurnedFrame}
use Rattle.rr_eval.specs.declared.frame.Control.TheVariants.{Give}
use Rattle.rr_eval.specs.declared.problem.Answer.TheVariants.{Gave}
use Rattle.rr_eval.specs.Blocks.{running}
use Rattle.rr_eval.specs.Frames.{runs_in, outcome_of, iterated, unwind}
use Rattle.rr_eval.specs.Iterating.{continued_with, left_turn, turned}
use Rattle.rr_eval.specs.Script.{Ended}
use Rattle.rr_eval.specs.Blocks.{without_frame}
use Rattle.rr_eval.specs.Turns.{context_of, code_of, state_of}
use Rattle.rr_eval.specs.Views.{view_of}
use Rattle.rr_eval.specs.Within.{AreReached, IsAnswerReached}
use Rattle.rr_eval.proofs.Holding.{with_cleared, with_frame}
use Rattle.rr_eval.proofs.Rounds.{leaves_turn}
use Rattle.rr_eval.proofs.Unwind.{given}
use Rattle.rr_eval.proofs.engine.Engine.leave_round.Goals as goal

pub returns-in-Done-clause-goes : goal.returns-in-Done-clause-goes
returns-in-Done-clause-goes c h n =
    let p = c.args.program.now in
    let t = c.args.space.now in
    let m = view_of c.args.self.now in
    let new = view_of c.pop_call.new.self in
    let code = code_of p h.world in
    let i = c.args.iteration in
    let v = c.in-Done.value in
    let s = state_of p new t h in
    let script = λ (held : List Ref). continued_with (context_of p) (iterated code i (drop i.base held)) v in
    ap (λ a. unwind code (reverse m.frames) (take i.base m.held) (runs_in code (turned (context_of p) (iterated code i (drop i.base m.held)) a) (state_of p m t h) n)) c.in-Done.is
    ∙ ap (λ x. unwind code (reverse m.frames) (take i.base m.held) (runs_in code (script m.held) x n)) (c.pop_call.ensures.state p t h)
    ∙ ap (λ fs. unwind code (reverse fs.items) (take i.base m.held) (runs_in code (script m.held) s n)) (sym c.pop_call.ensures.frames)
    ∙ ap (λ held. unwind code (reverse new.frames) (take i.base held.items) (runs_in code (script held.items) s n)) (sym c.pop_call.ensures.held)
    ∙ sym (given code new.frames (TurnedFrame i) new.held (Gave v) s n)
    ∙ ap (λ fs. outcome_of code fs new.held (Give (Gave v)) s n) (sym c.push_within.ensures)

pub returns-in-Done-clause-within : goal.returns-in-Done-clause-within
returns-in-Done-clause-within c k h answer =
    let new = view_of c.pop_call.new.self in
    let i = c.args.iteration in
    let v = c.in-Done.value in
    subst (λ fs. AreReached k (record new { control = Give (Gave v); frames = fs })) (sym c.push_within.ensures)
    (with_frame k new (TurnedFrame i) (Give (Gave v)) (c.pop_call.ensures.within k h) tt (subst (IsAnswerReached k) c.in-Done.is answer))

pub returns-in_default-clause-goes : goal.returns-in_default-clause-goes
returns-in_default-clause-goes c h n =
    let p = c.args.program.now in
    let t = c.args.space.now in
    let m = view_of c.args.self.now in
    let new = view_of c.pop_call.new.self in
    let code = code_of p h.world in
    let i = c.args.iteration in
    let a = c.args.answer in
    let base = i.base in
    let s = state_of p new t h in
    let own = context_of p in
    let first = record (state_of p m t h) { memory = without_frame (state_of p m t h).memory } in
    let root = (running m.calls.frames).root in
    ap (λ script. unwind code (reverse m.frames) (take base m.held) (runs_in code script first n)) (leaves_turn own (iterated code i (drop base m.held)) root a c.requires.passes c.in_default.not-Done)
    ∙ ap (λ x. unwind code (reverse m.frames) (take base m.held) (Ended (left_turn own i.visits root t a) x n)) (c.pop_call.ensures.state p t h)
    ∙ ap (λ r. unwind code (reverse m.frames) (take base m.held) (Ended (left_turn own i.visits r.root t a) s n)) (sym c.running-root.ensures)
    ∙ ap (λ x. unwind code (reverse m.frames) (take base m.held) (Ended x s n)) (sym c.left_turn-left.ensures.is)
    ∙ ap (λ fs. unwind code (reverse fs.items) (take base m.held) (Ended c.left_turn-left.result s n)) (sym c.pop_call.ensures.frames)
    ∙ ap (λ held. unwind code (reverse new.frames) (take base held.items) (Ended c.left_turn-left.result s n)) (sym c.pop_call.ensures.held)
    ∙ ap (λ held. unwind code (reverse new.frames) held (Ended c.left_turn-left.result s n)) (sym c.clear.ensures)

pub returns-in_default-clause-within : goal.returns-in_default-clause-within
returns-in_default-clause-within c k h answer =
    with_cleared k (view_of c.pop_call.new.self) (Round c.args.iteration) _ (Give c.left_turn-left.result) c.clear.ensures (c.pop_call.ensures.within k h) (c.left_turn-left.ensures.within k answer)
