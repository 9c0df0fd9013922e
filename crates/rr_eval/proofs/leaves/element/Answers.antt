-- An element lies within the space.
use Rattle.rr_eval.proofs.leaves.element.Goals as goal

pub returns-in-Item-clause-within : goal.returns-in-Item-clause-within
returns-in-Item-clause-within c clusters = c.own.ensures.within clusters c.in-Item.ensures.within
