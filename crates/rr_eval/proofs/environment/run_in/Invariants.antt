-- What was asked so far was served, and the machine has the rest to do.
use Rattle.std.proofs.Common.{length}
use Rattle.rr_eval.specs.Turns.{power}
use Rattle.rr_eval.specs.Within.{AreWithin}
use Rattle.rr_eval.proofs.Serving.{IsServed}
use Rattle.rr_eval.proofs.environment.run_in.Given as goal

abbrev pub invariant-loop-request : goal.invariant-loop-request
invariant-loop-request g l = record {
  within : AreWithin (length l.space.slots) l.machine;
  served : IsServed g.E.Environment.leads l.prepared.program l.fn.machine l.fn.space l.fn.environment l.machine l.space l.environment;
}

abbrev pub decreases-loop-request : goal.decreases-loop-request
decreases-loop-request g l = power l.machine
