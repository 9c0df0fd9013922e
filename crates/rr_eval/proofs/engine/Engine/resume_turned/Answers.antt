-- What is kept lies within the space.
use Rattle.std.proofs.Common.{length}
use Rattle.rr_eval.specs.Within.{reach}
use Rattle.rr_eval.proofs.engine.Engine.resume_turned.Goals as goal

pub returns-in-Ok-clause-within : goal.returns-in-Ok-clause-within
returns-in-Ok-clause-within c clusters h value = c.go_on_with.ensures.within clusters h (c.in-Ok.ensures.within clusters value)

pub returns-in-Ok-clause-asks : goal.returns-in-Ok-clause-asks
returns-in-Ok-clause-asks c clusters h value = c.go_on_with.ensures.asks (reach (length c.args.space.now.slots) clusters) h (c.in-Ok.ensures.within clusters value)

pub returns-in-Err-clause-within : goal.returns-in-Err-clause-within
returns-in-Err-clause-within c clusters h value = c.refuse.ensures.within (reach (length c.args.space.now.slots) clusters) h
