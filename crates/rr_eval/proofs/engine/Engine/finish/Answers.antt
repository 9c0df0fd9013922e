-- The call that reads is asked for later.
use Rattle.std.proofs.Common.{length}
use Rattle.rr_eval.specs.Within.{reach}
use Rattle.rr_eval.proofs.engine.Engine.finish.Goals as goal

pub returns-in-Update-clause-asks : goal.returns-in-Update-clause-asks
returns-in-Update-clause-asks c clusters h value = c.finish_access.ensures.asks (reach (length c.args.space.now.slots) clusters)
