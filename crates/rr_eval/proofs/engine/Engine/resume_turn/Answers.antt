-- A turn ends, and the iteration goes on behind it.
use Rattle.std.proofs.Common.{◌∙◌, List, length, ap, sym, reverse, take, drop}
use Rattle.rr_space.specs.declared.refer.Ref.{Ref}
use Rattle.rr_eval.specs.Frames.{runs_in, unwind, iterated}
use Rattle.rr_eval.specs.Iterating.{continued_with}
use Rattle.rr_eval.specs.Turns.{context_of, code_of, state_of}
use Rattle.rr_eval.specs.Views.{view_of}
use Rattle.rr_eval.specs.Within.{reach}
use Rattle.rr_eval.proofs.engine.Engine.resume_turn.Goals as goal

pub returns-clause-goes : goal.returns-clause-goes
returns-clause-goes c = λ h.
    let p = c.args.prepared.now.program in
    let m = view_of c.take_top.new.self in
    let new = view_of c.pop_call.new.self in
    let t = c.args.space.now in
    let code = code_of p h.world in
    let i = c.args.iteration in
    let script = λ (held : List Ref). continued_with (context_of p) (iterated code i (drop i.base held)) c.args.value in
    c.take_top.ensures.goes p t h
    ∙ ap (λ s. unwind code (reverse m.frames) (take i.base m.held) (runs_in code (script m.held) s m.left)) (c.pop_call.ensures.state p t h)
    ∙ ap (λ fs. unwind code (reverse fs.items) (take i.base m.held) (runs_in code (script m.held) (state_of p new t h) m.left)) (sym c.pop_call.ensures.frames)
    ∙ ap (λ held. unwind code (reverse new.frames) (take i.base held.items) (runs_in code (script held.items) (state_of p new t h) m.left)) (sym c.pop_call.ensures.held)
    ∙ ap (λ k. unwind code (reverse new.frames) (take i.base new.held) (runs_in code (script new.held) (state_of p new t h) k)) (sym c.pop_call.ensures.left)
    ∙ c.go_on_often.ensures.goes h

pub returns-clause-within : goal.returns-clause-within
returns-clause-within c clusters h =
    let k = reach (length c.args.space.now.slots) clusters in
    c.go_on_often.ensures.within clusters (c.pop_call.ensures.within k (c.take_top.ensures.within k h)) (c.take_top.ensures.given k h)
