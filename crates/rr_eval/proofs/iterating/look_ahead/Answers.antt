-- An integer leads nowhere, and an element lies within the space.
use Rattle.std.proofs.Common.{length}
use Rattle.rr_eval.specs.Within.{reach}
use Rattle.rr_eval.proofs.iterating.look_ahead.Goals as goal

pub returns-in-Upto-clause-within : goal.returns-in-Upto-clause-within
returns-in-Upto-clause-within c clusters all = c.up_to.ensures.within (reach (length c.args.space.now.slots) clusters)

pub returns-in-Elements-clause-within : goal.returns-in-Elements-clause-within
returns-in-Elements-clause-within c clusters all = c.element_ahead.ensures.within clusters
