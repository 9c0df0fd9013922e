-- The pairs so far are evaluated, and their keys and values are held.
use Rattle.std.proofs.Common.{◌+◌, ◌*◌, ◌<◌, ◌≤◌, length, drop, vec_capacity, Option}
use Rattle.rr_space.specs.Tables.{Below}
use Rattle.rr_tree.specs.Nodes.{trees_before}
use Rattle.rr_eval.specs.Rules.{pair_parts}
use Rattle.rr_eval.specs.Usual.{ValuesFirst, HoldsMore}
use Rattle.rr_eval.specs.Views.{view_of}
use Rattle.rr_eval.specs.Within.{reach, AreReached}
use Rattle.rr_eval.proofs.engine.Engine.hold_pairs.Given as goal

abbrev pub invariant-loop-rest : goal.invariant-loop-rest
invariant-loop-rest l = record {
  takes : ValuesFirst l.prepared.program (view_of l.fn.self) l.space (pair_parts (trees_before l.prepared.program.nodes.items l.end l.count)) l.steps (drop (length l.fn.self.held.items) l.self.held.items) (pair_parts (trees_before l.prepared.program.nodes.items l.end l.rest));
  fewer : l.rest ≤ l.count;
  grows : length l.fn.self.held.items ≤ length l.self.held.items;
  space : length l.self.held.items + 2 * l.rest ≤ vec_capacity l.self.held;
  enough : l.stop + l.steps < l.fn.self.left;
  holds : HoldsMore (view_of l.fn.self) (view_of l.self);
  reached : (clusters : Option Below) → AreReached (reach (length l.space.slots) clusters) (view_of l.fn.self) → AreReached (reach (length l.space.slots) clusters) (view_of l.self);
}

abbrev pub decreases-loop-rest : goal.decreases-loop-rest
decreases-loop-rest l = l.rest
