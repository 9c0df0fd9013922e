-- The value of the last turn is reached.
use Rattle.std.proofs.Common.{length}
use Rattle.rr_eval.specs.Within.{reach}
use Rattle.rr_eval.proofs.engine.Engine.run_visits.Goals as goal

pub returns-clause-value : goal.returns-clause-value
returns-clause-value c clusters h = c.run_times.ensures.value (reach (length c.args.space.now.slots) clusters) h
