-- What statements go on with is within reach.
use Rattle.rr_eval.proofs.engine.Engine.give_top.Goals as goal

pub returns-in-Some-Rest-clause-within : goal.returns-in-Some-Rest-clause-within
returns-in-Some-Rest-clause-within c k h value = c.next_statement.ensures.within k h
