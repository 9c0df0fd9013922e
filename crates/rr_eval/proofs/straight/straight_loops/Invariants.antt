-- The statements so far are such ones.
use Rattle.rr_eval.specs.Straight.{AreStraight}
use Rattle.rr_eval.proofs.straight.straight_loops.Given as goal

abbrev pub invariant-loop-number : goal.invariant-loop-number
invariant-loop-number l = AreStraight l.program.nodes.items l.loops.statements.items
