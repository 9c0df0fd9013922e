-- A frame over a value holds no reference.
use Rattle.rr_eval.proofs.engine.Engine.open_assignment.Goals as goal

pub returns-clause-within : goal.returns-clause-within
returns-clause-within c k h = c.enter_above.ensures.within k h tt
