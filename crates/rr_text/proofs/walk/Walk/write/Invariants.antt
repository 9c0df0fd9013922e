use Rattle.std.proofs.Common.{◌≡◌, false}
use Rattle.rr_space.specs.Tables.{Below, graph_of, resolve}
use Rattle.rr_space.specs.Parts.{value_of}
use Rattle.rr_text.specs.Walk.{Wrote, followed}
use Rattle.rr_text.specs.Forms.{spelled, pieced}
use Rattle.rr_text.specs.Names.{names_of}
use Rattle.rr_text.specs.Ways.{way_of}
use Rattle.rr_text.specs.Reads.{IsReadWith, IsAmong}
use Rattle.rr_text.specs.Rest.{load}
use Rattle.rr_text.specs.Frames.{IsFit, AreAmong, whole_of, parts_of, breadth}
use Rattle.rr_text.proofs.walk.Walk.write.Given as goal

abbrev pub invariant-loop-top : goal.invariant-loop-top
invariant-loop-top l = record {
  fit : IsFit l.space l.levels l.self.frames.items;
  among : (below : Below) → IsReadWith l.space below → IsAmong below l.fn.value → AreAmong below l.self.frames.items;
  same : (below : Below) → IsReadWith l.space below → IsAmong below l.fn.value
      → followed (Wrote (spelled l.fn.self.out.items)) (pieced (names_of l.program) (graph_of l.space.slots below) (λ _. false) l.levels (way_of l.fn.form) (resolve l.space.slots (value_of l.fn.value)))
      ≡ whole_of (names_of l.program) (graph_of l.space.slots below) (λ _. false) l.levels l.self.frames.items (spelled l.self.out.items);
}

abbrev pub decreases-loop-top : goal.decreases-loop-top
decreases-loop-top l = load (parts_of l.space) breadth l.levels l.self.frames.items
