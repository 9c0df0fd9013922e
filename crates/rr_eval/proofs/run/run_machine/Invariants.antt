-- What was printed so far was written, and the machine has the rest to do.
use Rattle.std.proofs.Common.{◌≡◌, length, Some}
use Rattle.rr_text.specs.Reads.{IsReadWith}
use Rattle.rr_eval.specs.Published.{published}
use Rattle.rr_eval.specs.Turns.{power}
use Rattle.rr_eval.specs.Within.{AreWithin, AreReached, reach}
use Rattle.rr_eval.specs.Written.{written_to}
use Rattle.rr_eval.specs.Runs.{program_meaning}
use Rattle.rr_eval.proofs.Running.{IsRunning}
use Rattle.rr_eval.proofs.run.run_machine.Given as goal

abbrev pub invariant-loop-set : goal.invariant-loop-set
invariant-loop-set g l = record {
  within : AreWithin (length l.space.slots) l.machine;
  reached : AreReached (reach (length l.space.slots) (Some (published l.store))) l.machine;
  read : IsReadWith l.space (published l.store);
  limit : l.space.limit ≡ l.fn.limits.slots;
  running : IsRunning l.fn.limits.events l.prepared.program l.machine l.space (program_meaning l.prepared.program l.fn.limits) (written_to g.O.Output.contents g.O.Output.failures l.initial.output) (written_to g.O.Output.contents g.O.Output.failures l.output) l.store;
}

abbrev pub decreases-loop-set : goal.decreases-loop-set
decreases-loop-set g l = power l.machine
