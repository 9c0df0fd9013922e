-- Fewer links are left.
use Rattle.std.specs.Prelude.{length}
use Rattle.rr_eval.proofs.straight.are_plain.Given as goal

abbrev pub invariant-loop-rest : goal.invariant-loop-rest
invariant-loop-rest l = Unit {0}

abbrev pub decreases-loop-rest : goal.decreases-loop-rest
decreases-loop-rest l = length l.rest
