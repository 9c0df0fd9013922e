-- A variable is reached.
use Rattle.rr_eval.specs.Views.{view_of}
use Rattle.rr_eval.proofs.Holding.{calls_reached}
use Rattle.rr_eval.proofs.engine.Engine.leaf_at.Goals as goal

pub returns-in-Some-Variable-clause-within : goal.returns-in-Some-Variable-clause-within
returns-in-Some-Variable-clause-within c k h = c.variable.ensures.within k (calls_reached k (view_of c.args.self.now) h)
