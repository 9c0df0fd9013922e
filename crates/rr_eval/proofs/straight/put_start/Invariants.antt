-- Fewer places lie between.
use Rattle.std.proofs.Common.{◌-◌, length}
use Rattle.rr_eval.proofs.straight.put_start.Given as goal

abbrev pub invariant-loop-starts : goal.invariant-loop-starts
invariant-loop-starts l = Unit {0}

abbrev pub decreases-loop-starts : goal.decreases-loop-starts
decreases-loop-starts l = l.place - length l.starts.items
