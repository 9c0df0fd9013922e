-- The parts so far are evaluated, and their values are held.
use Rattle.std.proofs.Common.{◌≡◌, ◌+◌, ◌<◌, ◌≤◌, length, drop, vec_capacity, Option}
use Rattle.rr_space.specs.Tables.{Below}
use Rattle.rr_tree.specs.Nodes.{trees_before}
use Rattle.rr_eval.specs.Usual.{TakeFirst, HoldsMore}
use Rattle.rr_eval.specs.Views.{view_of}
use Rattle.rr_eval.specs.Within.{reach, AreReached}
use Rattle.rr_eval.proofs.engine.Engine.hold_parts.Given as goal

abbrev pub invariant-loop-rest : goal.invariant-loop-rest
invariant-loop-rest l = record {
  takes : TakeFirst l.prepared.program (view_of l.fn.self) l.space (trees_before l.prepared.program.nodes.items l.end l.count) l.steps (drop (length l.fn.self.held.items) l.self.held.items) (trees_before l.prepared.program.nodes.items l.end l.rest);
  fewer : l.rest ≤ l.count;
  rest : length l.self.held.items + l.rest ≡ length l.fn.self.held.items + l.count;
  space : length l.self.held.items + l.rest ≤ vec_capacity l.self.held;
  enough : l.stop + l.steps < l.fn.self.left;
  holds : HoldsMore (view_of l.fn.self) (view_of l.self);
  reached : (clusters : Option Below) → AreReached (reach (length l.space.slots) clusters) (view_of l.fn.self) → AreReached (reach (length l.space.slots) clusters) (view_of l.self);
  room : vec_capacity l.self.frames ≡ vec_capacity l.fn.self.frames;
}

abbrev pub decreases-loop-rest : goal.decreases-loop-rest
decreases-loop-rest l = l.rest
