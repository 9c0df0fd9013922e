-- The method by which a value is asked ends, and the other values are asked.
use Rattle.std.proofs.Common.{◌∙◌, ◌+◌, ◌++◌, ◌∷◌, ◌≤◌, [], length, ap, sym, subst, reverse, take, drop, List}
use Rattle.rr_space.specs.declared.refer.Ref.{Ref}
use Rattle.rr_eval.specs.declared.frame.Frame.TheVariants.{Asked as AskedFrame}
use Rattle.rr_eval.specs.declared.problem.Answer.TheVariants.{Gave}
use Rattle.rr_eval.specs.Frames.{runs_in, outcome_of, unwind, Nested}
use Rattle.rr_eval.specs.Runs.{no_objects}
use Rattle.rr_eval.specs.Speaking.{heard, asked_on}
use Rattle.rr_eval.specs.Turns.{context_of, code_of, state_of, remaining, continuing, IsNested}
use Rattle.rr_eval.specs.Views.{view_of}
use Rattle.rr_eval.specs.Within.{reach, AreReached, IsControlReached}
use Rattle.rr_eval.proofs.Holding.{with_frame}
use Rattle.rr_eval.proofs.Unwind.{frame_back, given, nested_push}
use Rattle.rr_eval.proofs.engine.Engine.resume_asking.Goals as goal

pub returns-in-Ok-clause-goes : goal.returns-in-Ok-clause-goes
returns-in-Ok-clause-goes c h =
    let p = c.args.prepared.now.program in
    let m = view_of c.args.self.now in
    let new = view_of c.pop_call.new.self in
    let t = c.args.space.now in
    let code = code_of p h.world in
    let a = c.args.asking in
    let script = λ (held : List Ref). heard (asked_on (context_of p) a (drop a.base held)) (Gave c.args.value) in
    ap (λ s. unwind code (reverse m.frames) (take a.base m.held) (runs_in code (script m.held) s m.left)) (c.pop_call.ensures.state p t h)
    ∙ ap (λ fs. unwind code (reverse fs.items) (take a.base m.held) (runs_in code (script m.held) (state_of p new t h) m.left)) (sym c.pop_call.ensures.frames)
    ∙ ap (λ held. unwind code (reverse new.frames) (take a.base held.items) (runs_in code (script held.items) (state_of p new t h) m.left)) (sym c.pop_call.ensures.held)
    ∙ c.in-Ok.ensures.goes h m.left
    ∙ ap (λ k. continuing p (view_of c.resume_asked.new.self) t c.in-Ok.request h k) (sym (c.in-Ok.ensures.left ∙ c.pop_call.ensures.left))

pub returns-in-Ok-clause-within : goal.returns-in-Ok-clause-within
returns-in-Ok-clause-within c clusters h value = c.in-Ok.ensures.within clusters (c.pop_call.ensures.within (reach (length c.args.space.now.slots) clusters) h) value

pub returns-in-Ok-clause-asks : goal.returns-in-Ok-clause-asks
returns-in-Ok-clause-asks c clusters h value = c.in-Ok.ensures.asks clusters (c.pop_call.ensures.within (reach (length c.args.space.now.slots) clusters) h) value

pub returns-in-Err-clause-nested : goal.returns-in-Err-clause-nested
returns-in-Err-clause-nested c =
    let m = view_of c.args.self.now in
    let new = view_of c.pop_call.new.self in
    let a = c.args.asking in
    let back = frame_back new (view_of c.resume_asked.new.self) (no_objects 0) (AskedFrame a) c.in-Err.fault c.push_within.new.items.items (c.in-Err.ensures.err (no_objects 0)) c.push_within.ensures in
    let base : a.base + a.count ≤ length new.held = subst (λ held. a.base + a.count ≤ length held.items) (sym c.pop_call.ensures.held) c.requires.base in
    let nested : Nested (reverse new.frames) (take a.base new.held) =
    subst (λ fs. Nested (reverse fs.items) (take a.base new.held)) (sym c.pop_call.ensures.frames) (subst (λ held. Nested (reverse m.frames) (take a.base held.items)) (sym c.pop_call.ensures.held) c.requires.nested) in
    subst IsNested back (nested_push new.frames (AskedFrame a) new.held base nested)

pub returns-in-Err-clause-within : goal.returns-in-Err-clause-within
returns-in-Err-clause-within c clusters h value =
    let k = reach (length c.args.space.now.slots) clusters in
    let new = view_of c.pop_call.new.self in
    let a = c.args.asking in
    let back = frame_back new (view_of c.resume_asked.new.self) (no_objects 0) (AskedFrame a) c.in-Err.fault c.push_within.new.items.items (c.in-Err.ensures.err (no_objects 0)) c.push_within.ensures in
    subst (AreReached k) back (with_frame k new (AskedFrame a) new.control (c.pop_call.ensures.within k h) tt (subst (IsControlReached k) (sym (c.pop_call.ensures.control ∙ c.requires.control)) value))

pub returns-in-Err-clause-back : goal.returns-in-Err-clause-back
returns-in-Err-clause-back c h =
    let p = c.args.prepared.now.program in
    let m = view_of c.args.self.now in
    let new = view_of c.pop_call.new.self in
    let t = c.args.space.now in
    let code = code_of p h.world in
    let a = c.args.asking in
    let s = state_of p new t h in
    let script = λ (held : List Ref). heard (asked_on (context_of p) a (drop a.base held)) (Gave c.args.value) in
    let back = frame_back new (view_of c.resume_asked.new.self) t (AskedFrame a) c.in-Err.fault c.push_within.new.items.items (c.in-Err.ensures.err t) c.push_within.ensures in
    ap (λ x. unwind code (reverse m.frames) (take a.base m.held) (runs_in code (script m.held) x m.left)) (c.pop_call.ensures.state p t h)
    ∙ ap (λ fs. unwind code (reverse fs.items) (take a.base m.held) (runs_in code (script m.held) s m.left)) (sym c.pop_call.ensures.frames)
    ∙ ap (λ held. unwind code (reverse new.frames) (take a.base held.items) (runs_in code (script held.items) s m.left)) (sym c.pop_call.ensures.held)
    ∙ ap (λ k. unwind code (reverse new.frames) (take a.base new.held) (runs_in code (script new.held) s k)) (sym c.pop_call.ensures.left)
    ∙ sym (given code new.frames (AskedFrame a) new.held (Gave c.args.value) s new.left)
    ∙ ap (λ k. outcome_of code (new.frames ++ AskedFrame a ∷ []) new.held k s new.left) (sym (c.pop_call.ensures.control ∙ c.requires.control))
    ∙ ap (λ v. remaining p v t h) back
