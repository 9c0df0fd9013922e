-- The exception would be one object too many.
use Rattle.std.proofs.Common.{◌≡◌, subst, sym, ap, length, Some}
use Rattle.rr_eval.specs.Acts.{Passes}
use Rattle.rr_eval.specs.Script.{objects_of}
use Rattle.rr_eval.specs.Rules.{raise}
use Rattle.rr_eval.specs.Frames.{outcome_of}
use Rattle.rr_eval.specs.Turns.{code_of, state_of, remaining, after_script}
use Rattle.rr_eval.specs.Within.{reach}
use Rattle.rr_eval.proofs.Holding.{ref_among, raised_reached, rescuing_reached}
use Rattle.rr_eval.proofs.Objects.{raise_passes}
use Rattle.rr_eval.specs.Views.{view_of}
use Rattle.rr_eval.proofs.engine.Engine.raise.Goals as goal

pub returns-in-Err-clause-full : goal.returns-in-Err-clause-full
returns-in-Err-clause-full c p h adds =
    let m = view_of c.args.self.now in
    let t = c.args.space.now in
    let f = c.in-Err.fault in
    let at : remaining p m t h ≡ after_script p m t (raise c.args.class c.args.message) h m.left = ap (λ k. outcome_of (code_of p h.world) m.frames m.held k (state_of p m t h) m.left) c.requires.control in
    subst (λ o. Passes f t.limit (objects_of o)) (sym at) (raise_passes p m t c.args.class c.args.message f h m.left adds c.in-Err.ensures.full)

pub returns-in-Ok-clause-read : goal.returns-in-Ok-clause-read
returns-in-Ok-clause-read c below read reached =
    let k = length c.args.space.now.slots in
    c.in-Ok.ensures.read below read (ref_among k below c.args.message (raised_reached (reach k (Some below)) (view_of c.args.self.now) c.args.class c.args.message c.requires.control reached)) (ref_among k below c.args.self.now.rescuing (rescuing_reached (reach k (Some below)) (view_of c.args.self.now) reached))
