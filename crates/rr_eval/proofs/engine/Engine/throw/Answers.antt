-- The message would be one object too many.
use Rattle.std.proofs.Common.{◌≡◌, ◌<◌, subst, sym, ap, arith, length, length-append, [], ◌∷◌}
use Rattle.rr_space.specs.Lookups.{text_object}
use Rattle.rr_space.specs.Tables.{Table, Here}
use Rattle.rr_eval.specs.declared.frame.Control.TheVariants.{Raise}
use Rattle.rr_eval.specs.Within.{reach, IsReached}
use Rattle.rr_eval.proofs.Holding.{with_control, reached_more}
use Rattle.rr_eval.specs.Acts.{Passes}
use Rattle.rr_eval.specs.Script.{objects_of}
use Rattle.rr_builtin.specs.Acts.{with_text}
use Rattle.rr_eval.specs.Rules.{throw}
use Rattle.rr_eval.specs.Frames.{outcome_of}
use Rattle.rr_eval.specs.Turns.{context_of, code_of, state_of, remaining, after_script}
use Rattle.rr_eval.proofs.Objects.{throw_passes}
use Rattle.rr_eval.specs.Views.{view_of}
use Rattle.rr_eval.proofs.engine.Engine.throw.Goals as goal

pub returns-in-Err-clause-full : goal.returns-in-Err-clause-full
returns-in-Err-clause-full c h adds =
    let p = c.args.program.now in
    let m = view_of c.args.self.now in
    let t = c.args.space.now in
    let f = c.in-Err.fault in
    let passes = subst (λ bytes. Passes f t.limit (length (with_text bytes t).slots)) c.in_ok-text.ensures c.in-Err.ensures.full in
    let at : remaining p m t h ≡ after_script p m t (throw (context_of p) c.args.problem) h m.left = ap (λ k. outcome_of (code_of p h.world) m.frames m.held k (state_of p m t h) m.left) c.requires.control in
    subst (λ o. Passes f t.limit (objects_of o)) (sym at) (throw_passes p m t c.args.problem f h m.left adds passes)

pub returns-in-Ok-clause-read : goal.returns-in-Ok-clause-read
returns-in-Ok-clause-read c below read reached = c.in-Ok.ensures.read below read

pub returns-in-Ok-clause-within : goal.returns-in-Ok-clause-within
returns-in-Ok-clause-within c clusters h =
    let m = view_of c.args.self.now in
    let t = c.args.space.now in
    let k = length t.slots in
    let l = length c.make_text.new.space.slots in
    let more : k < l = omega (arith, ap (λ (x : Table). length x.slots) c.in-Ok.ensures.made, length-append t.slots (Here (text_object c.in_ok-text.text.items) ∷ [])) in
    with_control (reach l clusters) m (Raise c.id.result c.in-Ok.message) (reached_more k l clusters (omega arith) m h) (subst (IsReached (reach l clusters)) (sym c.in-Ok.ensures.name) more)
