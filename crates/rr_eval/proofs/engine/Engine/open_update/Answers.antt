-- What is there is read first.
use Rattle.rr_eval.proofs.engine.Engine.open_update.Goals as goal

pub returns-in-Some-clause-within : goal.returns-in-Some-clause-within
returns-in-Some-clause-within c k h = c.enter_above.ensures.within k h tt

pub returns-in-None-clause-within : goal.returns-in-None-clause-within
returns-in-None-clause-within c k h = c.open_access.ensures.within k h
