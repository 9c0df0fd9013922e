-- The statements so far are done.
use Rattle.std.proofs.Common.{◌≡◌, ◌+◌, ◌-◌, ◌*◌, ◌≤◌, length, Option}
use Rattle.rr_space.specs.Tables.{Below}
use Rattle.rr_eval.specs.StraightRounds.{SetFirst}
use Rattle.rr_eval.specs.Views.{view_of}
use Rattle.rr_eval.specs.Within.{reach, AreReached}
use Rattle.rr_eval.proofs.engine.Engine.do_statements.Given as goal

abbrev pub invariant-loop-done : goal.invariant-loop-done
invariant-loop-done l = record {
  sets : SetFirst l.prepared.program (view_of l.fn.self) l.space (l.first + l.count) l.count (l.count - l.done) l.steps l.value (view_of l.self);
  fewer : l.done ≤ l.count;
  few : l.steps ≤ 172 * l.done;
  number : l.number ≤ l.from + l.done;
  within : (clusters : Option Below) → AreReached (reach (length l.space.slots) clusters) (view_of l.fn.self) → AreReached (reach (length l.space.slots) clusters) (view_of l.self);
  others : l.self ≡ record l.fn.self { calls = l.self.calls };
}

abbrev pub decreases-loop-done : goal.decreases-loop-done
decreases-loop-done l = l.count - l.done
