-- An exception has a cause, and no message yet.
use Rattle.rr_eval.proofs.making.make_object.Goals as goal

pub returns-then-makes_exceptions-clause-read : goal.returns-then-makes_exceptions-clause-read
returns-then-makes_exceptions-clause-read c below read cause = c.make_exception.ensures.read below read tt cause

pub returns-else-makes_exceptions-clause-read : goal.returns-else-makes_exceptions-clause-read
returns-else-makes_exceptions-clause-read c below read cause = c.make_plain.ensures.read below read
