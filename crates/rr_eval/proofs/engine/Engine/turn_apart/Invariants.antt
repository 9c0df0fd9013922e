-- What was still to be done is still to be done.
use Rattle.std.proofs.Common.{◌≡◌, ◌+◌, ◌≤◌, length}
use Rattle.rr_eval.specs.Requests.{Course}
use Rattle.rr_eval.specs.Changes.{Changes}
use Rattle.rr_eval.specs.Turns.{remaining, IsNested, power}
use Rattle.rr_eval.specs.Within.{AreWithin, KeepsReach, KeepsRead}
use Rattle.rr_eval.specs.Views.{view_of}
use Rattle.rr_eval.proofs.engine.Engine.turn_apart.Given as goal

abbrev pub invariant-loop-assignment : goal.invariant-loop-assignment
invariant-loop-assignment l = record {
  nested : IsNested (view_of l.self);
  refs : AreWithin (length l.space.slots) (view_of l.self);
  reaches : KeepsReach (view_of l.fn.self) l.fn.space (view_of l.self) l.space;
  reads : KeepsRead (view_of l.fn.self) l.fn.space l.space;
  within : l.stop ≤ l.self.left;
  falls : l.self.left ≤ l.fn.self.left;
  fell : power (view_of l.self) + l.fn.self.left ≤ power (view_of l.fn.self) + l.self.left;
  changed : Changes l.fn.space l.space;
  limit : l.space.limit ≡ l.fn.space.limit;
  same : (h : Course) → remaining l.prepared.program (view_of l.fn.self) l.fn.space h ≡ remaining l.prepared.program (view_of l.self) l.space h;
}

abbrev pub decreases-loop-assignment : goal.decreases-loop-assignment
decreases-loop-assignment l = power (view_of l.self)
