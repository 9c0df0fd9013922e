-- What is given is reached.
use Rattle.std.proofs.Common.{length}
use Rattle.rr_eval.specs.Within.{reach}
use Rattle.rr_eval.proofs.usual_rounds.ahead_often.Goals as goal

pub returns-in-Upto-clause-within : goal.returns-in-Upto-clause-within
returns-in-Upto-clause-within c clusters stand = c.up_to.ensures.within (reach (length c.args.space.now.slots) clusters)

pub returns-else-keeps-clause-within : goal.returns-else-keeps-clause-within
returns-else-keeps-clause-within c clusters stand = c.element_ahead.ensures.within clusters
