-- The rounds so far are done, and the loop comes next.
use Rattle.std.proofs.Common.{◌≡◌, ◌<◌, ◌≤◌, length, Option}
use Rattle.rr_space.specs.Tables.{Below}
use Rattle.rr_eval.specs.Requests.{Course}
use Rattle.rr_eval.specs.Turns.{remaining}
use Rattle.rr_eval.specs.Views.{view_of}
use Rattle.rr_eval.specs.Within.{reach, AreReached}
use Rattle.rr_eval.proofs.engine.Engine.run_straight.Given as goal

abbrev pub invariant-loop-gone : goal.invariant-loop-gone
invariant-loop-gone l = record {
  goes : (h : Course) → remaining l.prepared.program (view_of l.fn.self) l.space h ≡ remaining l.prepared.program (view_of l.self) l.space h;
  within : (clusters : Option Below) → AreReached (reach (length l.space.slots) clusters) (view_of l.fn.self) → AreReached (reach (length l.space.slots) clusters) (view_of l.self);
  others : l.self ≡ record l.fn.self { calls = l.self.calls; left = l.self.left };
  some : l.floor < l.self.left;
  kept : l.self.left ≤ l.fn.self.left;
}

abbrev pub decreases-loop-gone : goal.decreases-loop-gone
decreases-loop-gone l = l.self.left
