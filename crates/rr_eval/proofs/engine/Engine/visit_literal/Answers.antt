-- The text is what comes next.
use Rattle.std.proofs.Common.{◌-◌, refl, length}
use Rattle.rr_eval.specs.declared.frame.Control.TheVariants.{Give}
use Rattle.rr_eval.specs.declared.problem.Answer.TheVariants.{Gave}
use Rattle.rr_eval.specs.Views.{view_of}
use Rattle.rr_eval.specs.Within.{reach}
use Rattle.rr_eval.proofs.Holding.{with_control, with_left, reached_more}
use Rattle.rr_eval.proofs.MadeTexts.{made_here}
use Rattle.rr_eval.proofs.engine.Engine.visit_literal.Goals as goal

pub returns-in-Some-clause-goes : goal.returns-in-Some-clause-goes
returns-in-Some-clause-goes c = λ h.
    let m = view_of c.args.self.now in
    made_here c.args.prepared.now.program m c.args.space.now c.made_text.new.space c.args.here (m.left - 1) c.in-Some.value h c.requires.control (c.in-Some.ensures.makes m) c.requires.some refl

pub returns-in-Some-clause-within : goal.returns-in-Some-clause-within
returns-in-Some-clause-within c clusters h =
    let m = view_of c.args.self.now in
    let u = c.made_text.new.space in
    let k = reach (length u.slots) clusters in
    with_left k _ _ (with_control k m (Give (Gave c.in-Some.value)) (reached_more (length c.args.space.now.slots) (length u.slots) clusters c.in-Some.ensures.changed.grows m h) (c.in-Some.ensures.within clusters))

pub returns-in-Some-clause-read : goal.returns-in-Some-clause-read
returns-in-Some-clause-read c below read reached = c.in-Some.ensures.read below read
