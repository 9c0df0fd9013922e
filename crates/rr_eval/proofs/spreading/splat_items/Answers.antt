-- The elements of an array are reached.
use Rattle.rr_eval.proofs.spreading.splat_items.Goals as goal

pub returns-in-Array-clause-within : goal.returns-in-Array-clause-within
returns-in-Array-clause-within c clusters value = c.array_items.ensures.within clusters
