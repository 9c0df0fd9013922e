use Rattle.rr_world.proofs.Hands.{plan_of_hand, promoted_in}
use Rattle.rr_world.proofs.ractor.Ractor.promote.Goals as goal

pub returns : goal.returns
returns c = (
  plan_of_hand c.in-Some.places c.in-Some.published,
  promoted_in c.in-Some.places c.in-Some.published c.args.self.now c.self.inside.space c.promote.new.space c.self.inside.roots.items c.self.inside.hand c.take_published.new.self c.self.inside.limits c.self.inside.runs
      c.self.view_is c.in-Some.ensures.some.0 c.in-Some.ensures.some.1 c.self.invariant.0 c.self.invariant.2 c.promote.ensures.promoted,
)
