-- The method by which a value is asked ends, and its frame goes.
use Rattle.std.proofs.Common.{◌∙◌, ap, sym, subst, reverse, take, drop, List}
use Rattle.rr_space.specs.declared.refer.Ref.{Ref}
use Rattle.rr_eval.specs.declared.frame.Frame.TheVariants.{Asking as AskingFrame, Asked as AskedFrame}
use Rattle.rr_eval.specs.declared.frame.Control.TheVariants.{Give}
use Rattle.rr_eval.specs.declared.problem.Answer.{Answer}
use Rattle.rr_eval.specs.declared.problem.Answer.TheVariants.{Gave}
use Rattle.rr_eval.specs.Blocks.{returned, valued, without_frame}
use Rattle.rr_eval.specs.Frames.{runs_in, outcome_of, unwind}
use Rattle.rr_eval.specs.Script.{Ended}
use Rattle.rr_eval.specs.Speaking.{heard, asked_on}
use Rattle.rr_eval.specs.Turns.{context_of, code_of, state_of}
use Rattle.rr_eval.specs.Views.{view_of}
use Rattle.rr_eval.specs.Within.{AreReached, IsAnswerReached}
use Rattle.rr_eval.specs.declared.call_stack.CallValue.TheVariants.{Method as ByMethod}
use Rattle.rr_eval.proofs.Holding.{with_cleared, with_frame}
use Rattle.rr_eval.proofs.Invoking.{value_passes}
use Rattle.rr_eval.proofs.Unwind.{given}
use Rattle.rr_eval.proofs.engine.Engine.leave_asking.Goals as goal

pub returns-in-Gave-clause-goes : goal.returns-in-Gave-clause-goes
returns-in-Gave-clause-goes c p t h n =
    let m = view_of c.args.self.now in
    let new = view_of c.pop_call.new.self in
    let code = code_of p h.world in
    let a = c.args.asking in
    let v = c.in-Gave.value in
    let s = state_of p new t h in
    let first = record (state_of p m t h) { memory = without_frame (state_of p m t h).memory } in
    let next = λ (held : List Ref) (x : Answer). heard (asked_on (context_of p) a (drop a.base held)) x in
    let is = ap (valued ByMethod) (ap (λ k. returned k c.args.answer) (sym c.top-number.ensures) ∙ sym c.returned.ensures.is) ∙ sym c.valued.ensures.is ∙ c.in-Gave.is in
    ap (λ x. unwind code (reverse m.frames) (take a.base m.held) (runs_in code (next m.held x) first n)) is
    ∙ ap (λ x. unwind code (reverse m.frames) (take a.base m.held) (runs_in code (next m.held (Gave v)) x n)) (c.pop_call.ensures.state p t h)
    ∙ ap (λ fs. unwind code (reverse fs.items) (take a.base m.held) (runs_in code (next m.held (Gave v)) s n)) (sym c.pop_call.ensures.frames)
    ∙ ap (λ held. unwind code (reverse new.frames) (take a.base held.items) (runs_in code (next held.items (Gave v)) s n)) (sym c.pop_call.ensures.held)
    ∙ sym (given code new.frames (AskedFrame a) new.held (Gave v) s n)
    ∙ ap (λ fs. outcome_of code fs new.held (Give (Gave v)) s n) (sym c.push_within.ensures)

pub returns-in-Gave-clause-within : goal.returns-in-Gave-clause-within
returns-in-Gave-clause-within c k h answer =
    let new = view_of c.pop_call.new.self in
    let a = c.args.asking in
    let v = c.in-Gave.value in
    subst (λ fs. AreReached k (record new { control = Give (Gave v); frames = fs })) (sym c.push_within.ensures)
    (with_frame k new (AskedFrame a) (Give (Gave v)) (c.pop_call.ensures.within k h) tt (subst (IsAnswerReached k) c.in-Gave.is (c.valued.ensures.within k tt (c.returned.ensures.within k answer))))

pub returns-in_default-clause-goes : goal.returns-in_default-clause-goes
returns-in_default-clause-goes c p t h n =
    let m = view_of c.args.self.now in
    let new = view_of c.pop_call.new.self in
    let code = code_of p h.world in
    let a = c.args.asking in
    let s = state_of p new t h in
    let first = record (state_of p m t h) { memory = without_frame (state_of p m t h).memory } in
    let next = λ (held : List Ref) (x : Answer). heard (asked_on (context_of p) a (drop a.base held)) x in
    let ended = c.valued.result in
    let is = ap (valued ByMethod) (ap (λ k. returned k c.args.answer) (sym c.top-number.ensures) ∙ sym c.returned.ensures.is) ∙ sym c.valued.ensures.is in
    ap (λ x. unwind code (reverse m.frames) (take a.base m.held) (runs_in code (next m.held x) first n)) is
    ∙ ap (λ script. unwind code (reverse m.frames) (take a.base m.held) (runs_in code script first n)) (value_passes _ ended c.in_default.not-Gave)
    ∙ ap (λ x. unwind code (reverse m.frames) (take a.base m.held) (Ended ended x n)) (c.pop_call.ensures.state p t h)
    ∙ ap (λ fs. unwind code (reverse fs.items) (take a.base m.held) (Ended ended s n)) (sym c.pop_call.ensures.frames)
    ∙ ap (λ held. unwind code (reverse new.frames) (take a.base held.items) (Ended ended s n)) (sym c.pop_call.ensures.held)
    ∙ ap (λ held. unwind code (reverse new.frames) held (Ended ended s n)) (sym c.clear.ensures)

pub returns-in_default-clause-within : goal.returns-in_default-clause-within
returns-in_default-clause-within c k h answer =
    with_cleared k (view_of c.pop_call.new.self) (AskingFrame c.args.asking) _ (Give c.valued.result) c.clear.ensures (c.pop_call.ensures.within k h) (c.valued.ensures.within k tt (c.returned.ensures.within k answer))
