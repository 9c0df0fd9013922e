-- What the machine holds leads somewhere.
use Rattle.std.proofs.Common.{length}
use Rattle.rr_eval.specs.Within.{AreWithin}
use Rattle.examples_machine.proofs.block.run_machine.Given as goal

abbrev pub invariant-loop-turn : goal.invariant-loop-turn
invariant-loop-turn l = AreWithin (length l.space.slots) l.machine
