-- What was still to be done is still to be done.
use Rattle.std.proofs.Common.{◌≡◌, ◌+◌, ◌≤◌, length, Option}
use Rattle.rr_space.specs.Tables.{Below}
use Rattle.rr_eval.specs.Requests.{Course}
use Rattle.rr_eval.specs.Turns.{remaining, IsNested, power}
use Rattle.rr_eval.specs.Views.{view_of}
use Rattle.rr_eval.specs.Within.{reach, AreReached}
use Rattle.rr_eval.proofs.engine.Engine.act_usual.Given as goal

abbrev pub invariant-loop : goal.invariant-loop
invariant-loop l = record {
  nested : IsNested (view_of l.self);
  within : (clusters : Option Below) → AreReached (reach (length l.space.slots) clusters) (view_of l.fn.self) → AreReached (reach (length l.space.slots) clusters) (view_of l.self);
  left : l.stop ≤ l.self.left;
  kept : l.self.left ≤ l.fn.self.left;
  falls : power (view_of l.self) + l.fn.self.left ≤ power (view_of l.fn.self) + l.self.left;
  same : (h : Course) → remaining l.prepared.program (view_of l.fn.self) l.space h ≡ remaining l.prepared.program (view_of l.self) l.space h;
}

abbrev pub decreases-loop : goal.decreases-loop
decreases-loop l = power (view_of l.self)
