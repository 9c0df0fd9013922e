-- What a global variable holds is reached.
use Rattle.std.proofs.Common.{length}
use Rattle.rr_eval.specs.Within.{reach}
use Rattle.rr_eval.proofs.engine.Engine.open_global.Goals as goal

pub returns-then-is_main-clause-within : goal.returns-then-is_main-clause-within
returns-then-is_main-clause-within c clusters h = c.settle.ensures.within (reach (length c.args.space.now.slots) clusters) h (c.read_field-held.ensures.within clusters)
