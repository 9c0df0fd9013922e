use Rattle.rr_eval.proofs.Telling.{told_of}
use Rattle.rr_eval.proofs.machine.exceptions_hold.Goals as goal

pub returns-clause-told : goal.returns-clause-told
returns-clause-told c = told_of
