-- The elements are reached.
use Rattle.rr_eval.proofs.several.right_values.Goals as goal

pub returns-then-matches-clause-within : goal.returns-then-matches-clause-within
returns-then-matches-clause-within c clusters value = c.spread.ensures.within clusters
