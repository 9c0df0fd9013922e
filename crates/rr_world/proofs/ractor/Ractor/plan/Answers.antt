use Rattle.std.proofs.Common.{sym, subst, refl}
use Rattle.rr_move.specs.Hands.{message_in, home_in}
use Rattle.rr_move.specs.declared.hand.Hand.{Hand}
use Rattle.rr_world.specs.Views.{AreAway, IsHandFit}
use Rattle.rr_world.proofs.Hands.{plan_by, planned_away, planned_fits, planned_hand}
use Rattle.rr_world.proofs.ractor.Ractor.plan.Goals as goal

pub invariant_of-self : goal.invariant_of-self
invariant_of-self c =
    let slots = c.self.inside.space.slots in
    let is = planned_hand c.in-Ok.plan c.of_plan.result c.of_plan.ensures.empty c.of_plan.ensures.planned in (
      c.self.invariant.0,
      c.self.invariant.1,
      subst (IsHandFit c.self.inside.space) (sym is) (planned_fits c.self.inside.space c.in-Ok.plan c.in-Ok.plan.places c.in-Ok.ensures.plan.planned),
      subst (λ (h : Hand). AreAway slots (message_in h) (home_in h)) (sym is) (planned_away slots c.in-Ok.plan c.in-Ok.plan.places),
    )

pub returns-in-Ok : goal.returns-in-Ok
returns-in-Ok c =
    plan_by c.args.operand c.in-Some.value c.in-Ok.plan c.args.self.now c.self.inside.space c.self.inside.roots.items c.self.inside.hand c.of_plan.result c.self.inside.limits c.self.inside.runs
    c.self.view_is (c.if-not-is_empty.ensures.0 refl) (sym c.in-Some.ensures.is)
    (planned_hand c.in-Ok.plan c.of_plan.result c.of_plan.ensures.empty c.of_plan.ensures.planned) c.in-Ok.ensures.plan
