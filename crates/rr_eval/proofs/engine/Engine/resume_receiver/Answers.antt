-- What is done with the values holds no more.
use Rattle.std.proofs.Common.{length}
use Rattle.rr_eval.specs.Within.{reach}
use Rattle.rr_eval.proofs.engine.Engine.resume_receiver.Goals as goal

pub returns-in-0-clause-within : goal.returns-in-0-clause-within
returns-in-0-clause-within c k h value = c.finish.ensures.within k h value

pub returns-in_default-clause-asks : goal.returns-in_default-clause-asks
returns-in_default-clause-asks c k h value = c.keep_item.ensures.asks (reach (length c.args.space.now.slots) k)
