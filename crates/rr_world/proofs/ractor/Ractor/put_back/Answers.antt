use Rattle.rr_world.proofs.Hands.{put_by}
use Rattle.rr_world.proofs.ractor.Ractor.put_back.Goals as goal

pub returns : goal.returns
returns c = (
  c.in-Some.moved,
  put_by c.in-Some.moved c.args.self.now c.self.inside.space c.reattach.new.space c.self.inside.roots.items c.self.inside.hand c.take_moved.new.self c.self.inside.limits c.self.inside.runs
      c.self.view_is c.in-Some.ensures.some.0 c.in-Some.ensures.some.1 c.self.invariant.0 c.self.invariant.3 c.reattach.ensures,
)
