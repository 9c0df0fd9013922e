-- What is held stays within.
use Rattle.rr_eval.proofs.engine.Engine.resume_rare.Goals as goal

pub returns-in-Asking-clause-within : goal.returns-in-Asking-clause-within
returns-in-Asking-clause-within c clusters h frame value = c.resume_asking.ensures.within clusters h value

pub returns-in-Asking-clause-asks : goal.returns-in-Asking-clause-asks
returns-in-Asking-clause-asks c clusters h frame value = c.resume_asking.ensures.asks clusters h value

pub returns-in-Round-clause-within : goal.returns-in-Round-clause-within
returns-in-Round-clause-within c clusters h frame value = c.resume_round.ensures.within clusters h value

pub returns-in-Round-clause-asks : goal.returns-in-Round-clause-asks
returns-in-Round-clause-asks c clusters h frame value = c.resume_round.ensures.asks clusters h value

pub returns-in-Item-clause-within : goal.returns-in-Item-clause-within
returns-in-Item-clause-within c clusters h frame value = c.resume_item.ensures.within clusters h value

pub returns-in-Item-clause-asks : goal.returns-in-Item-clause-asks
returns-in-Item-clause-asks c clusters h frame value = c.resume_item.ensures.asks clusters h value
