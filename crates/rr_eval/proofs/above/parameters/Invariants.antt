-- The first parameters are kept.
use Rattle.std.proofs.Common.{◌≡◌, ◌≤◌, ◌-◌}
use Rattle.std.specs.List.{All}
use Rattle.rr_eval.specs.Above.{first_variables}
use Rattle.rr_eval.specs.Within.{Reach, AreVariablesReached, IsReached}
use Rattle.rr_eval.proofs.above.parameters.Given as goal

abbrev pub invariant-loop-slot : goal.invariant-loop-slot
invariant-loop-slot l = record {
  same : l.values.items ≡ first_variables l.slot l.running.root l.calls.frames;
  reached : (k : Reach) → All (AreVariablesReached k) l.calls.frames → All (IsReached k) l.values.items;
  most : l.slot ≤ l.running.parameters;
}

abbrev pub decreases-loop-slot : goal.decreases-loop-slot
decreases-loop-slot l = l.running.parameters - l.slot
