-- The variable has its value, which stays.
use Rattle.std.proofs.Common.{◌≡◌, ◌∙◌, ◌+◌, ◌-◌, ap, arith, length, sym}
use Rattle.rr_eval.specs.declared.frame.Control.TheVariants.{Give}
use Rattle.rr_eval.specs.declared.problem.Answer.TheVariants.{Gave}
use Rattle.rr_eval.specs.Script.{Ret}
use Rattle.rr_eval.specs.Turns.{after_script}
use Rattle.rr_eval.specs.Views.{view_of}
use Rattle.rr_eval.specs.Within.{reach}
use Rattle.rr_eval.proofs.Holding.{with_control, with_left}
use Rattle.rr_eval.proofs.QuickSends.{comes_first}
use Rattle.rr_eval.proofs.engine.Engine.leave_true.Goals as goal

pub returns-clause-goes : goal.returns-clause-goes
returns-clause-goes c = λ _ h.
    let p = c.args.prepared.now.program in
    let m = view_of c.args.self.now in
    let t = c.args.space.now in
    let found = c.in-Some.found in
    let enough = c.in-Some.ensures.enough in
    let kept = Ret (Gave found.value) in
    let spent : m.left - (found.steps + 1) ≡ m.left - found.steps - 1 = omega arith in
    comes_first p m t c.args.here found.steps kept h c.requires.control (c.requires.leaves m t found.steps found.value c.in-Some.ensures.takes (sym c.is_truthy.ensures ∙ c.if-not-is_truthy.false)) (omega (arith, enough))
    ∙ ap (after_script p m t kept h) spent

pub returns-clause-within : goal.returns-clause-within
returns-clause-within c clusters h =
    let k = reach (length c.args.space.now.slots) clusters in
    let m = view_of c.args.self.now in
    let v = c.in-Some.found.value in
    with_left k (record m { control = Give (Gave v) }) _ (with_control k m (Give (Gave v)) h (c.in-Some.ensures.within clusters h))
