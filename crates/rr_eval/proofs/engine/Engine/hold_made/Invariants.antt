-- The parts so far are evaluated, and their values are held.
use Rattle.std.proofs.Common.{◌≡◌, ◌+◌, ◌<◌, ◌≤◌, length, drop, vec_capacity}
use Rattle.rr_space.specs.Tables.{Below}
use Rattle.rr_text.specs.Reads.{IsReadWith}
use Rattle.rr_tree.specs.Nodes.{trees_before}
use Rattle.rr_eval.specs.Changes.{Changes}
use Rattle.rr_eval.specs.Usual.{MakeFirst, HoldsMore}
use Rattle.rr_eval.specs.Views.{view_of}
use Rattle.rr_eval.specs.Within.{KeepsReach}
use Rattle.rr_eval.proofs.engine.Engine.hold_made.Given as goal

abbrev pub invariant-loop-rest : goal.invariant-loop-rest
invariant-loop-rest l = record {
  makes : MakeFirst l.prepared.program (view_of l.fn.self) l.fn.space (trees_before l.prepared.program.nodes.items l.end l.count) l.steps (drop (length l.fn.self.held.items) l.self.held.items) l.space (trees_before l.prepared.program.nodes.items l.end l.rest);
  fewer : l.rest ≤ l.count;
  rest : length l.self.held.items + l.rest ≡ length l.fn.self.held.items + l.count;
  room : length l.self.held.items + l.rest ≤ vec_capacity l.self.held;
  enough : l.stop + l.steps < l.fn.self.left;
  holds : HoldsMore (view_of l.fn.self) (view_of l.self);
  reached : KeepsReach (view_of l.fn.self) l.fn.space (view_of l.self) l.space;
  read : (below : Below) → IsReadWith l.fn.space below → IsReadWith l.space below;
  frames : vec_capacity l.self.frames ≡ vec_capacity l.fn.self.frames;
  limit : l.space.limit ≡ l.fn.space.limit;
  changed : Changes l.fn.space l.space;
}

abbrev pub decreases-loop-rest : goal.decreases-loop-rest
decreases-loop-rest l = l.rest
