-- A frame over the body of a loop holds no reference.
use Rattle.rr_eval.proofs.engine.Engine.go_round.Goals as goal

pub returns-then-goes_on-clause-within : goal.returns-then-goes_on-clause-within
returns-then-goes_on-clause-within c k h = c.enter_above.ensures.within k h tt
