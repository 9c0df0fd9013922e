-- The values so far stand before those of the rest.
use Rattle.std.proofs.Common.{◌≡◌, ◌++◌, length}
use Rattle.std.specs.List.{All}
use Rattle.rr_eval.specs.Tasks.{values_shown}
use Rattle.rr_eval.specs.Within.{Reach, IsReached}
use Rattle.rr_eval.proofs.show.values_shown.Given as goal

abbrev pub invariant-loop-rest : goal.invariant-loop-rest
invariant-loop-rest l = record {
  same : values_shown l.values ≡ l.shown.items ++ values_shown l.rest;
  rest : (k : Reach) → All (IsReached k) l.values → All (IsReached k) l.rest;
  reached : (k : Reach) → All (IsReached k) l.values → All (IsReached k) l.shown.items;
}

abbrev pub decreases-loop-rest : goal.decreases-loop-rest
decreases-loop-rest l = length l.rest
