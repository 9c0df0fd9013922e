-- What the rounds come to is gone on with.
use Rattle.rr_eval.specs.Views.{view_of}
use Rattle.rr_eval.proofs.engine.Engine.try_straight.Goals as goal

pub returns-clause-goes : goal.returns-clause-goes
returns-clause-goes c h = c.end_straight.ensures.goes c.args.prepared.now.program (view_of c.args.self.now) c.args.space.now h c.run_straight-gone.ensures.goes
