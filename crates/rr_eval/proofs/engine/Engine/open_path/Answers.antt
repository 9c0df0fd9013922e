-- What is held stays reached.
use Rattle.std.proofs.Common.{length}
use Rattle.rr_eval.specs.Within.{reach}
use Rattle.rr_eval.proofs.engine.Engine.open_path.Goals as goal

pub returns-in-Ractor-clause-within : goal.returns-in-Ractor-clause-within
returns-in-Ractor-clause-within c clusters h = c.open_constant.ensures.within (reach (length c.args.space.now.slots) clusters) h
