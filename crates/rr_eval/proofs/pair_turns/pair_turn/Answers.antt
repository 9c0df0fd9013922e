-- The value of a pair lies within the space.
use Rattle.rr_eval.proofs.pair_turns.pair_turn.Goals as goal

pub returns-in_ok-read-clause-within : goal.returns-in_ok-read-clause-within
returns-in_ok-read-clause-within c clusters key =
    c.pair_read.ensures.within clusters key c.in_ok-read.ensures.within
