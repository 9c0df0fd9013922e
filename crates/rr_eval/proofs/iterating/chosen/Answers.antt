-- An element lies within the space.
use Rattle.rr_eval.proofs.iterating.chosen.Goals as goal

pub returns-in-Some-clause-within : goal.returns-in-Some-clause-within
returns-in-Some-clause-within c clusters = c.in-Some.ensures.within clusters c.in-Item.ensures.within
