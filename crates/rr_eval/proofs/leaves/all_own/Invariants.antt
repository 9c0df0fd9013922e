-- The values so far stand before those of the rest.
use Rattle.std.proofs.Common.{◌≡◌, length}
use Rattle.std.specs.List.{All}
use Rattle.rr_text.specs.Comparing.{all_there}
use Rattle.rr_eval.specs.Leaves.{AreItemsReached}
use Rattle.rr_eval.specs.Within.{Reach, IsReached}
use Rattle.rr_eval.proofs.Spreads.{behind}
use Rattle.rr_eval.proofs.leaves.all_own.Given as goal

abbrev pub invariant-loop-rest : goal.invariant-loop-rest
invariant-loop-rest l = record {
  same : all_there l.items ≡ behind l.values.items (all_there l.rest);
  rest : (k : Reach) → AreItemsReached k l.items → AreItemsReached k l.rest;
  reached : (k : Reach) → AreItemsReached k l.items → All (IsReached k) l.values.items;
}

abbrev pub decreases-loop-rest : goal.decreases-loop-rest
decreases-loop-rest l = length l.rest
