-- What was found, and then what the arrays still give, is what the value gives.
use Rattle.std.proofs.Common.{◌≡◌, ◌≤◌, length, Option}
use Rattle.rr_space.specs.Tables.{Below}
use Rattle.rr_text.specs.Rest.{load}
use Rattle.rr_text.specs.Frames.{breadth}
use Rattle.rr_eval.specs.Leaves.{leaves_in, whole_of, rest_of, AreItemsReached, AreOpenedReached}
use Rattle.rr_eval.specs.Within.{reach, IsReached}
use Rattle.rr_eval.proofs.leaves.leaves_in.Given as goal

abbrev pub invariant-loop-top : goal.invariant-loop-top
invariant-loop-top l = record {
  fit : length l.leaves.arrays.items ≤ l.levels;
  same : leaves_in l.how l.space l.levels l.value ≡ whole_of l.how l.space l.levels l.leaves.arrays.items l.leaves.found.items;
  opened : (clusters : Option Below) → IsReached (reach (length l.space.slots) clusters) l.value → AreOpenedReached (reach (length l.space.slots) clusters) l.leaves.arrays.items;
  found : (clusters : Option Below) → IsReached (reach (length l.space.slots) clusters) l.value → AreItemsReached (reach (length l.space.slots) clusters) l.leaves.found.items;
}

abbrev pub decreases-loop-top : goal.decreases-loop-top
decreases-loop-top l = load (rest_of l.space) breadth l.levels l.leaves.arrays.items
