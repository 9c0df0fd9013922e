-- What is raised is reached, and a growth that is refused leaves what is still to be done.
use Rattle.std.proofs.Common.{◌≡◌, ◌∙◌, ap, sym, refl, subst, length, reverse, Some}
use Rattle.rr_eval.specs.Acts.{Passes}
use Rattle.rr_eval.specs.Script.{objects_of}
use Rattle.rr_eval.specs.Requests.{Course, Adds}
use Rattle.rr_eval.specs.declared.frame.Control.TheVariants.{Throw}
use Rattle.rr_eval.specs.Frames.{outcome_of, unwind}
use Rattle.rr_eval.specs.Turns.{code_of, state_of, remaining}
use Rattle.rr_eval.specs.Views.{view_of}
use Rattle.rr_eval.specs.Within.{reach}
use Rattle.rr_eval.proofs.Holding.{with_control, raise_value_reached}
use Rattle.rr_eval.proofs.Raises.{same_either, on_err}
use Rattle.rr_eval.proofs.engine.Engine.raise_value.Goals as goal

pub returns-in-Ok-clause-within : goal.returns-in-Ok-clause-within
returns-in-Ok-clause-within c clusters h =
    let k = reach (length c.args.space.now.slots) clusters in
    let m = view_of c.args.self.now in
    let raised = raise_value_reached k m c.args.value c.args.message c.requires.control h in
    with_control k m c.in-Ok.control h (c.in-Ok.ensures.within k raised.0 raised.1)

pub returns-in-Err-clause-goes : goal.returns-in-Err-clause-goes
returns-in-Err-clause-goes c = λ h.
    let p = c.args.program.now in
    let m = view_of c.args.self.now in
    let t = c.args.space.now in
    let code = code_of p h.world in
    ap (λ k. outcome_of code m.frames m.held k (state_of p m t h) m.left) c.requires.control
    ∙ ap (unwind code (reverse m.frames) m.held) (c.in-Err.ensures.goes h.world (state_of p m t h) m.left refl)
    ∙ same_either c.throw.result p (record m { control = Throw c.in-Err.problem }) (view_of c.throw.new.self) t c.throw.new.space c.throw.ensures.goes c.throw.ensures.err h

pub returns-in-Err-clause-within : goal.returns-in-Err-clause-within
returns-in-Err-clause-within c clusters h =
    c.throw.ensures.within clusters (with_control (reach (length c.args.space.now.slots) clusters) (view_of c.args.self.now) (Throw c.in-Err.problem) h tt)

pub returns-in-Err-clause-read : goal.returns-in-Err-clause-read
returns-in-Err-clause-read c below read h =
    c.throw.ensures.read below read (with_control (reach (length c.args.space.now.slots) (Some below)) (view_of c.args.self.now) (Throw c.in-Err.problem) h tt)

pub returns-in-Err-clause-full : goal.returns-in-Err-clause-full
returns-in-Err-clause-full c =
    let p = c.args.program.now in
    let m = view_of c.args.self.now in
    let t = c.args.space.now in
    let mid = record m { control = Throw c.in-Err.problem } in
    let first : (h : Course) → remaining p m t h ≡ remaining p mid t h = λ h.
    ap (λ k. outcome_of (code_of p h.world) m.frames m.held k (state_of p m t h) m.left) c.requires.control
    ∙ ap (unwind (code_of p h.world) (reverse m.frames) m.held) (c.in-Err.ensures.goes h.world (state_of p m t h) m.left refl) in
    on_err c.throw.result (λ f. (h : Course) → Adds h.world → Passes f t.limit (objects_of (remaining p mid t h))) (λ f. (h : Course) → Adds h.world → Passes f t.limit (objects_of (remaining p m t h)))
    (λ f passes h adds. subst (λ o. Passes f t.limit (objects_of o)) (sym (first h)) (passes h adds)) c.throw.ensures.full
