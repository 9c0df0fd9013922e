-- A chosen element lies within the space.
use Rattle.rr_eval.proofs.iterating.kept.Goals as goal

pub returns-then-is_truthy-clause-within : goal.returns-then-is_truthy-clause-within
returns-then-is_truthy-clause-within c clusters value = c.chosen.ensures.within clusters
