-- An element and an attribute are read by a call.
use Rattle.rr_eval.proofs.engine.Engine.open_operator.Goals as goal

pub returns-in-None-clause-within : goal.returns-in-None-clause-within
returns-in-None-clause-within c k h = c.open_access.ensures.within k h
