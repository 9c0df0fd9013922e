-- The parts so far are evaluated, and their values stand first.
use Rattle.std.specs.Prelude.{◌≡◌, ◌+◌, ◌-◌, ◌*◌, ◌≤◌, length, take}
use Rattle.rr_space.specs.Tables.{Table}
use Rattle.rr_tree.specs.Nodes.{trees_before}
use Rattle.rr_eval.specs.Usual.{TakeFirst}
use Rattle.rr_eval.specs.Views.{view_of}
use Rattle.rr_eval.proofs.engine.Engine.arguments_unframed.Given as goal

abbrev pub invariant-loop-done : goal.invariant-loop-done
invariant-loop-done l = record {
  takes : (t : Table) → TakeFirst l.prepared.program (view_of l.self) t (trees_before l.prepared.program.nodes.items (l.first + l.count) l.count) l.steps (take l.done l.values) (trees_before l.prepared.program.nodes.items (l.first + l.count) (l.count - l.done));
  fewer : l.done ≤ l.count;
  size : length l.values ≡ 4;
  few : l.steps ≤ 3 * l.done;
}

abbrev pub decreases-loop-done : goal.decreases-loop-done
decreases-loop-done l = l.count - l.done
