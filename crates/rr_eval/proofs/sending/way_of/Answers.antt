-- The value of the call is among the arguments.
use Rattle.rr_eval.proofs.sending.way_of.Goals as goal

pub returns-clause-within : goal.returns-clause-within
returns-clause-within c k receiver values last =
    let inside = c.passed.ensures.within k values last in
    (receiver, c.value_of_call.ensures.within k inside.0 inside.1)
