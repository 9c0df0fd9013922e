use Rattle.rr_world.proofs.Running.{ran, none_runs}
use Rattle.rr_world.proofs.world.World.step.Goals as goal

pub returns-in-Some : goal.returns-in-Some
returns-in-Some c = record { step = ran c.args.self.now c.make.new.self c.args.step.now c.in-Some.place c.make.result c.in-Some.ensures.found.0 c.in-Some.ensures.found.2 c.make.ensures }

pub returns-in-None : goal.returns-in-None
returns-in-None c = record { step = none_runs c.args.self.now c.args.step.now c.in-None.ensures.none }
