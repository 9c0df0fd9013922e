-- The statements so far are such ones.
use Rattle.rr_eval.specs.Straight.{AreStraight}
use Rattle.rr_eval.proofs.straight.put_statements.Given as goal

abbrev pub invariant-loop-rest : goal.invariant-loop-rest
invariant-loop-rest l = AreStraight l.program.nodes.items l.statements.items

abbrev pub decreases-loop-rest : goal.decreases-loop-rest
decreases-loop-rest l = l.rest
