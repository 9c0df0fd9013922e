-- These are the arguments.
use Rattle.std.proofs.Common.{sym}
use Rattle.rr_eval.proofs.serve.send_with.Goals as goal

pub returns-in-One : goal.returns-in-One
returns-in-One c = rw c.in-One.is c.send-in-One.ensures

pub returns-in-Two : goal.returns-in-Two
returns-in-Two c = rw c.in-Two.is c.send-in-Two.ensures

pub returns-in-Many : goal.returns-in-Many
returns-in-Many c = rw c.in-Many.is (rw (sym c.as_slice.ensures.value) c.send-in-Many.ensures)
