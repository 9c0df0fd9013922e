-- What is printed for the values that were seen is held behind the values.
use Rattle.std.proofs.Common.{◌≡◌, ◌+◌, ◌-◌, ◌≤◌, length, take, Option}
use Rattle.std.specs.List.{All}
use Rattle.rr_space.specs.Tables.{Below}
use Rattle.rr_eval.specs.Heard.{SameThere, still_asked}
use Rattle.rr_eval.specs.Within.{reach, IsReached}
use Rattle.rr_eval.proofs.Answered.{at_seen}
use Rattle.rr_eval.proofs.hearing.gather.Given as goal

abbrev pub invariant-loop-seen : goal.invariant-loop-seen
invariant-loop-seen l = record {
  kept : take (length l.initial.held.items) l.held.items ≡ l.initial.held.items;
  inside : l.asking.base + l.asking.count ≤ length l.held.items;
  goes : SameThere l.space (still_asked l.prepared.program l.asking l.initial.held.items) (still_asked l.prepared.program (at_seen l.asking l.seen) l.held.items);
  reached : (clusters : Option Below) → All (IsReached (reach (length l.space.slots) clusters)) l.initial.held.items → All (IsReached (reach (length l.space.slots) clusters)) l.held.items;
}

abbrev pub decreases-loop-seen : goal.decreases-loop-seen
decreases-loop-seen l = l.asking.count - l.seen
