-- What is kept is reached.
use Rattle.rr_eval.proofs.engine.Engine.begin_kept.Goals as goal

pub returns-in-Ok-clause-within : goal.returns-in-Ok-clause-within
returns-in-Ok-clause-within c clusters h value = c.begin_element_with.ensures.within clusters h (c.in-Ok.ensures.within clusters value)
