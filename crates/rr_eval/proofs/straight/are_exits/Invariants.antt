-- The choices behind those that are left are looked at.
use Rattle.rr_eval.proofs.straight.are_exits.Given as goal

abbrev pub decreases-loop-rest : goal.decreases-loop-rest
decreases-loop-rest l = l.rest
