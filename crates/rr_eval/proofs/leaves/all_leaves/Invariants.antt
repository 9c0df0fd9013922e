-- What was found so far stands before the leaves of the other values.
use Rattle.std.proofs.Common.{◌≡◌, length, Option}
use Rattle.std.specs.List.{All}
use Rattle.rr_space.specs.Tables.{Below}
use Rattle.rr_text.specs.Walk.{Wrote, followed}
use Rattle.rr_eval.specs.Leaves.{all_leaves, AreItemsReached}
use Rattle.rr_eval.specs.Within.{reach, IsReached}
use Rattle.rr_eval.proofs.leaves.all_leaves.Given as goal

abbrev pub invariant-loop-rest : goal.invariant-loop-rest
invariant-loop-rest l = record {
  same : all_leaves l.how l.space l.levels l.values ≡ followed (Wrote l.items.items) (all_leaves l.how l.space l.levels l.rest);
  rest : (clusters : Option Below) → All (IsReached (reach (length l.space.slots) clusters)) l.values → All (IsReached (reach (length l.space.slots) clusters)) l.rest;
  found : (clusters : Option Below) → All (IsReached (reach (length l.space.slots) clusters)) l.values → AreItemsReached (reach (length l.space.slots) clusters) l.items.items;
}

abbrev pub decreases-loop-rest : goal.decreases-loop-rest
decreases-loop-rest l = length l.rest
