-- What a constant was set to is reached.
use Rattle.std.proofs.Common.{length}
use Rattle.rr_eval.specs.Within.{reach}
use Rattle.rr_eval.proofs.engine.Engine.open_set.Goals as goal

pub returns-in-Some-clause-within : goal.returns-in-Some-clause-within
returns-in-Some-clause-within c clusters h = c.settle.ensures.within (reach (length c.args.space.now.slots) clusters) h (c.in-Some.ensures.within clusters)

pub returns-in-None-clause-within : goal.returns-in-None-clause-within
returns-in-None-clause-within c clusters h = c.open_constant.ensures.within (reach (length c.args.space.now.slots) clusters) h
