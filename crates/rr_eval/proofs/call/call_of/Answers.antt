-- The receiver and the arguments are reached.
use Rattle.rr_eval.proofs.call.call_of.Goals as goal

pub returns-clause-within : goal.returns-clause-within
returns-clause-within c k receiver values last =
    let inside = c.passed.ensures.within k values last in
    record { receiver = receiver; arguments = c.in_ok-arguments.ensures.within k inside.0 inside.1 }
