-- What is spread so far stands before the elements that are still to be read.
use Rattle.std.proofs.Common.{◌≡◌, ◌-◌, length, Option}
use Rattle.std.specs.List.{All}
use Rattle.rr_space.specs.Tables.{Below}
use Rattle.rr_eval.specs.Blocks.{spread_from}
use Rattle.rr_eval.specs.Within.{reach, IsReached}
use Rattle.rr_eval.proofs.Spreads.{behind}
use Rattle.rr_eval.proofs.spreading.spread.Given as goal

abbrev pub invariant-loop-place : goal.invariant-loop-place
invariant-loop-place l = record {
  same : spread_from l.space l.array 0 l.count ≡ behind l.values.items (spread_from l.space l.array l.place (l.count - l.place));
  reached : (clusters : Option Below) → All (IsReached (reach (length l.space.slots) clusters)) l.values.items;
}

abbrev pub decreases-loop-place : goal.decreases-loop-place
decreases-loop-place l = l.count - l.place
