-- The choices so far choose nothing.
use Rattle.std.specs.Prelude.{◌+◌, ◌-◌, ◌*◌, ◌<◌, ◌≤◌}
use Rattle.rr_space.specs.declared.refer.Ref.TheVariants.{Nil}
use Rattle.rr_eval.specs.Unframed.{SetFirstInside}
use Rattle.rr_eval.specs.Views.{view_of}
use Rattle.rr_eval.proofs.engine.Engine.passes_unframed.Given as goal

abbrev pub invariant-loop-done : goal.invariant-loop-done
invariant-loop-done l = record {
  passes : SetFirstInside l.prepared.program (view_of l.self) l.values l.home (l.first + l.count) l.count (l.count - l.done) l.steps Nil (view_of l.self);
  fewer : l.done < l.count;
  few : l.steps ≤ 33 * l.done;
}

abbrev pub decreases-loop-done : goal.decreases-loop-done
decreases-loop-done l = l.count - l.done
