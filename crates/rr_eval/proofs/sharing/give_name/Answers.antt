-- Nil is given.
use Rattle.rr_eval.proofs.sharing.give_name.Goals as goal

pub returns-then-is_main-clause-within : goal.returns-then-is_main-clause-within
returns-then-is_main-clause-within c k = c.give_alone.ensures.within k tt
