-- A turn ends, and the next one begins, or the iteration waits behind it.
use Rattle.std.proofs.Common.{◌≡◌, ◌∙◌, ◌++◌, ◌∷◌, [], length, ap, sym, subst, reverse, take, drop, List}
use Rattle.rr_space.specs.declared.refer.Ref.{Ref}
use Rattle.rr_eval.specs.declared.frame.Frame.TheVariants.{Turned as TurnedFrame}
use Rattle.rr_eval.specs.declared.problem.Answer.TheVariants.{Gave}
use Rattle.rr_eval.specs.Frames.{runs_in, outcome_of, unwind, iterated}
use Rattle.rr_eval.specs.Iterating.{continued_with}
use Rattle.rr_eval.specs.Turns.{context_of, code_of, state_of, remaining, remaining_with}
use Rattle.rr_eval.specs.View.{View}
use Rattle.rr_eval.specs.Views.{view_of}
use Rattle.rr_eval.specs.Within.{reach, AreReached, IsControlReached}
use Rattle.rr_eval.proofs.Holding.{with_frame}
use Rattle.rr_eval.proofs.Unwind.{given}
use Rattle.rr_eval.proofs.engine.Engine.resume_kept.Goals as goal

pub returns-then-begin_kept-clause-goes : goal.returns-then-begin_kept-clause-goes
returns-then-begin_kept-clause-goes c = λ h.
    let p = c.args.program.now in
    let m = view_of c.take_top.new.self in
    let new = view_of c.pop_call.new.self in
    let t = c.args.space.now in
    let code = code_of p h.world in
    let i = c.args.iteration in
    let script = λ (held : List Ref). continued_with (context_of p) (iterated code i (drop i.base held)) c.args.value in
    c.take_top.ensures.goes p t h
    ∙ ap (λ s. unwind code (reverse m.frames) (take i.base m.held) (runs_in code (script m.held) s m.left)) (c.pop_call.ensures.state p t h)
    ∙ ap (λ fs. unwind code (reverse fs.items) (take i.base m.held) (runs_in code (script m.held) (state_of p new t h) m.left)) (sym c.pop_call.ensures.frames)
    ∙ ap (λ held. unwind code (reverse new.frames) (take i.base held.items) (runs_in code (script held.items) (state_of p new t h) m.left)) (sym c.pop_call.ensures.held)
    ∙ c.begin_kept.ensures.goes c.if-begin_kept.true h m.left
    ∙ ap (λ k. remaining_with p (view_of c.begin_kept.new.self) t h k) (sym (c.begin_kept.ensures.left ∙ c.pop_call.ensures.left))
    ∙ c.enter_body.ensures.goes t h

pub returns-then-begin_kept-clause-within : goal.returns-then-begin_kept-clause-within
returns-then-begin_kept-clause-within c clusters h =
    let k = reach (length c.args.space.now.slots) clusters in
    c.enter_body.ensures.within k (c.begin_kept.ensures.within clusters (c.pop_call.ensures.within k (c.take_top.ensures.within k h)) (c.take_top.ensures.given k h))

pub returns-clause-goes : goal.returns-clause-goes
returns-clause-goes c = λ h.
    let p = c.args.program.now in
    let m = view_of c.take_top.new.self in
    let new = view_of c.pop_call.new.self in
    let t = c.args.space.now in
    let code = code_of p h.world in
    let i = c.args.iteration in
    let s = state_of p new t h in
    let script = λ (held : List Ref). continued_with (context_of p) (iterated code i (drop i.base held)) c.args.value in
    let same = c.begin_kept.ensures.same c.if-begin_kept.false in
    let back : record new { frames = new.frames ++ TurnedFrame i ∷ [] } ≡ record (view_of c.begin_kept.new.self) { frames = c.push_within.new.items.items } =
    ap (λ (v : View). record v { frames = v.frames ++ TurnedFrame i ∷ [] }) (sym same)
    ∙ ap (λ fs. record (view_of c.begin_kept.new.self) { frames = fs }) (sym c.push_within.ensures) in
    let given_still = c.pop_call.ensures.control ∙ c.take_top.ensures.control ∙ c.requires.control in
    c.take_top.ensures.goes p t h
    ∙ ap (λ x. unwind code (reverse m.frames) (take i.base m.held) (runs_in code (script m.held) x m.left)) (c.pop_call.ensures.state p t h)
    ∙ ap (λ fs. unwind code (reverse fs.items) (take i.base m.held) (runs_in code (script m.held) s m.left)) (sym c.pop_call.ensures.frames)
    ∙ ap (λ held. unwind code (reverse new.frames) (take i.base held.items) (runs_in code (script held.items) s m.left)) (sym c.pop_call.ensures.held)
    ∙ ap (λ k. unwind code (reverse new.frames) (take i.base new.held) (runs_in code (script new.held) s k)) (sym c.pop_call.ensures.left)
    ∙ sym (given code new.frames (TurnedFrame i) new.held (Gave c.args.value) s new.left)
    ∙ ap (λ k. outcome_of code (new.frames ++ TurnedFrame i ∷ []) new.held k s new.left) (sym given_still)
    ∙ ap (λ v. remaining p v t h) back

pub returns-clause-within : goal.returns-clause-within
returns-clause-within c clusters h =
    let k = reach (length c.args.space.now.slots) clusters in
    let new = view_of c.pop_call.new.self in
    let i = c.args.iteration in
    let same = c.begin_kept.ensures.same c.if-begin_kept.false in
    let back : record new { frames = new.frames ++ TurnedFrame i ∷ [] } ≡ record (view_of c.begin_kept.new.self) { frames = c.push_within.new.items.items } =
    ap (λ (v : View). record v { frames = v.frames ++ TurnedFrame i ∷ [] }) (sym same)
    ∙ ap (λ fs. record (view_of c.begin_kept.new.self) { frames = fs }) (sym c.push_within.ensures) in
    let given_still = c.pop_call.ensures.control ∙ c.take_top.ensures.control ∙ c.requires.control in
    subst (AreReached k) back (with_frame k new (TurnedFrame i) new.control (c.pop_call.ensures.within k (c.take_top.ensures.within k h)) tt (subst (IsControlReached k) (sym given_still) (c.take_top.ensures.given k h)))
