-- The values of a task are held.
use Rattle.rr_eval.specs.Views.{view_of}
use Rattle.rr_eval.proofs.Holding.{held_reached, without_values}
use Rattle.rr_eval.proofs.engine.Engine.ask.Goals as goal

pub returns-clause-asks : goal.returns-clause-asks
returns-clause-asks c k h value = c.in_ok-values.ensures.within k (c.standing.ensures.within k (held_reached k (view_of c.args.self.now) h)) value

pub returns-clause-within : goal.returns-clause-within
returns-clause-within c k h = without_values k (view_of c.args.self.now) c.args.frame _ c.clear.ensures h
