-- What is held stays within.
use Rattle.std.proofs.Common.{length}
use Rattle.rr_eval.specs.Within.{reach}
use Rattle.rr_eval.proofs.engine.Engine.open_missing.Goals as goal

pub returns-in-Ok-clause-within : goal.returns-in-Ok-clause-within
returns-in-Ok-clause-within c clusters h = c.open_raise.ensures.within (reach (length c.args.space.now.slots) clusters) h

pub returns-in-Err-clause-within : goal.returns-in-Err-clause-within
returns-in-Err-clause-within c clusters h = c.open_raise.ensures.within (reach (length c.args.space.now.slots) clusters) h
