-- A turn ends, and what is ahead follows.
use Rattle.std.proofs.Common.{◌∙◌, ◌++◌, ◌∷◌, ◌≤◌, [], length, ap, sym, subst, reverse, take, drop, List}
use Rattle.rr_space.specs.declared.refer.Ref.{Ref}
use Rattle.rr_eval.specs.declared.frame.Frame.TheVariants.{Turned as TurnedFrame}
use Rattle.rr_eval.specs.declared.problem.Answer.TheVariants.{Gave}
use Rattle.rr_eval.specs.Frames.{runs_in, outcome_of, unwind, iterated, Nested}
use Rattle.rr_eval.specs.Iterating.{continued_with}
use Rattle.rr_eval.specs.Runs.{no_objects}
use Rattle.rr_eval.specs.Turns.{context_of, code_of, state_of, remaining, continuing, IsNested}
use Rattle.rr_eval.specs.Views.{view_of}
use Rattle.rr_eval.specs.Within.{reach, AreReached, IsControlReached}
use Rattle.rr_eval.proofs.Holding.{with_frame}
use Rattle.rr_eval.proofs.Unwind.{frame_back, given, nested_push}
use Rattle.rr_eval.proofs.engine.Engine.resume_round.Goals as goal

pub returns-in-Ok-clause-goes : goal.returns-in-Ok-clause-goes
returns-in-Ok-clause-goes c h =
    let p = c.args.program.now in
    let m = view_of c.args.self.now in
    let new = view_of c.pop_call.new.self in
    let t = c.args.space.now in
    let code = code_of p h.world in
    let i = c.args.iteration in
    let script = λ (held : List Ref). continued_with (context_of p) (iterated code i (drop i.base held)) c.args.value in
    ap (λ s. unwind code (reverse m.frames) (take i.base m.held) (runs_in code (script m.held) s m.left)) (c.pop_call.ensures.state p t h)
    ∙ ap (λ fs. unwind code (reverse fs.items) (take i.base m.held) (runs_in code (script m.held) (state_of p new t h) m.left)) (sym c.pop_call.ensures.frames)
    ∙ ap (λ held. unwind code (reverse new.frames) (take i.base held.items) (runs_in code (script held.items) (state_of p new t h) m.left)) (sym c.pop_call.ensures.held)
    ∙ c.in-Ok.ensures.goes h m.left
    ∙ ap (λ k. continuing p (view_of c.resume_turned.new.self) t c.in-Ok.request h k) (sym (c.in-Ok.ensures.left ∙ c.pop_call.ensures.left))

pub returns-in-Ok-clause-within : goal.returns-in-Ok-clause-within
returns-in-Ok-clause-within c clusters h value = c.in-Ok.ensures.within clusters (c.pop_call.ensures.within (reach (length c.args.space.now.slots) clusters) h) value

pub returns-in-Ok-clause-asks : goal.returns-in-Ok-clause-asks
returns-in-Ok-clause-asks c clusters h value = c.in-Ok.ensures.asks clusters (c.pop_call.ensures.within (reach (length c.args.space.now.slots) clusters) h) value

pub returns-in-Err-clause-nested : goal.returns-in-Err-clause-nested
returns-in-Err-clause-nested c =
    let m = view_of c.args.self.now in
    let new = view_of c.pop_call.new.self in
    let i = c.args.iteration in
    let back = frame_back new (view_of c.resume_turned.new.self) (no_objects 0) (TurnedFrame i) c.in-Err.fault c.push_within.new.items.items (c.in-Err.ensures.err (no_objects 0)) c.push_within.ensures in
    let base : i.base ≤ length new.held = subst (λ held. i.base ≤ length held.items) (sym c.pop_call.ensures.held) c.requires.base in
    let nested : Nested (reverse new.frames) (take i.base new.held) =
    subst (λ fs. Nested (reverse fs.items) (take i.base new.held)) (sym c.pop_call.ensures.frames) (subst (λ held. Nested (reverse m.frames) (take i.base held.items)) (sym c.pop_call.ensures.held) c.requires.nested) in
    subst IsNested back (nested_push new.frames (TurnedFrame i) new.held base nested)

pub returns-in-Err-clause-within : goal.returns-in-Err-clause-within
returns-in-Err-clause-within c clusters h value =
    let k = reach (length c.args.space.now.slots) clusters in
    let new = view_of c.pop_call.new.self in
    let i = c.args.iteration in
    let back = frame_back new (view_of c.resume_turned.new.self) (no_objects 0) (TurnedFrame i) c.in-Err.fault c.push_within.new.items.items (c.in-Err.ensures.err (no_objects 0)) c.push_within.ensures in
    subst (AreReached k) back (with_frame k new (TurnedFrame i) new.control (c.pop_call.ensures.within k h) tt (subst (IsControlReached k) (sym (c.pop_call.ensures.control ∙ c.requires.control)) value))

pub returns-in-Err-clause-back : goal.returns-in-Err-clause-back
returns-in-Err-clause-back c h =
    let p = c.args.program.now in
    let m = view_of c.args.self.now in
    let new = view_of c.pop_call.new.self in
    let t = c.args.space.now in
    let code = code_of p h.world in
    let i = c.args.iteration in
    let s = state_of p new t h in
    let script = λ (held : List Ref). continued_with (context_of p) (iterated code i (drop i.base held)) c.args.value in
    let back = frame_back new (view_of c.resume_turned.new.self) t (TurnedFrame i) c.in-Err.fault c.push_within.new.items.items (c.in-Err.ensures.err t) c.push_within.ensures in
    ap (λ x. unwind code (reverse m.frames) (take i.base m.held) (runs_in code (script m.held) x m.left)) (c.pop_call.ensures.state p t h)
    ∙ ap (λ fs. unwind code (reverse fs.items) (take i.base m.held) (runs_in code (script m.held) s m.left)) (sym c.pop_call.ensures.frames)
    ∙ ap (λ held. unwind code (reverse new.frames) (take i.base held.items) (runs_in code (script held.items) s m.left)) (sym c.pop_call.ensures.held)
    ∙ ap (λ k. unwind code (reverse new.frames) (take i.base new.held) (runs_in code (script new.held) s k)) (sym c.pop_call.ensures.left)
    ∙ sym (given code new.frames (TurnedFrame i) new.held (Gave c.args.value) s new.left)
    ∙ ap (λ k. outcome_of code (new.frames ++ TurnedFrame i ∷ []) new.held k s new.left) (sym (c.pop_call.ensures.control ∙ c.requires.control))
    ∙ ap (λ v. remaining p v t h) back
