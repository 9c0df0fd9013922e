use Rattle.std.proofs.Common.{ap, subst, arith}
use Rattle.rr_share.proofs.Forwards.{planned_few}
use Rattle.rr_world.specs.Views.{IsPlanFit, plan_in}
use Rattle.rr_world.proofs.Hands.{taken_plan}
use Rattle.rr_world.proofs.ractor.Ractor.take_plan.Goals as goal

pub returns-clause-some : goal.returns-clause-some
returns-clause-some c =
    let plan = c.in_ok-plan.plan in
    let t = c.self.inside.space in
    let fit = subst (IsPlanFit t) (ap plan_in c.in_ok-plan.ensures.some.0) c.self.invariant.2.0 in
    let few = planned_few t plan.cluster plan.places fit c.len-places.ensures.distinct in
    let count = fit.count in
    taken_plan plan c.args.self.now t c.self.inside.roots.items c.self.inside.hand c.take_plan.new.self c.self.inside.limits c.self.inside.runs c.self.view_is c.in_ok-plan.ensures.some.0 c.in_ok-plan.ensures.some.1
    fit c.len-objects.ensures.sound (omega (arith, few, count, c.len-slots.ensures.count, c.len-slots.ensures.room, c.len-slots.ensures.few))
