-- The value of a pair lies within the space.
use Rattle.rr_eval.proofs.pair_turns.pair_published.Goals as goal

pub returns-then-is_key-clause-within : goal.returns-then-is_key-clause-within
returns-then-is_key-clause-within c clusters key = c.pair_read.ensures.within clusters key c.found_at-then-is_key.ensures.within
