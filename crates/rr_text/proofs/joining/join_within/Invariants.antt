use Rattle.std.proofs.Common.{◌≡◌, ◌≤◌, [], length, false}
use Rattle.rr_space.specs.Tables.{Below, graph_of, resolve}
use Rattle.rr_space.specs.Parts.{value_of}
use Rattle.rr_text.specs.Forms.{spelled}
use Rattle.rr_text.specs.Names.{names_of}
use Rattle.rr_text.specs.Reads.{IsReadWith, IsAmong}
use Rattle.rr_text.specs.Rest.{load}
use Rattle.rr_text.specs.Frames.{breadth}
use Rattle.rr_text.specs.Joining.{joint, whole_of, rest_of, AreAmong}
use Rattle.rr_text.proofs.joining.join_within.Given as goal

abbrev pub invariant-loop-top : goal.invariant-loop-top
invariant-loop-top l = record {
  fit : length l.joining.arrays.items ≤ l.levels;
  none : l.joining.walk.frames.items ≡ [];
  among : (below : Below) → IsReadWith l.space below → IsAmong below l.fn.array → AreAmong below l.joining.arrays.items;
  same : (below : Below) → IsReadWith l.space below → IsAmong below l.fn.array
      → joint (names_of l.program) (graph_of l.space.slots below) (λ _. false) l.levels l.separator (resolve l.space.slots (value_of l.fn.array))
      ≡ whole_of (names_of l.program) (graph_of l.space.slots below) (λ _. false) l.levels l.separator l.space.slots l.joining.arrays.items (spelled l.joining.walk.out.items);
}

abbrev pub decreases-loop-top : goal.decreases-loop-top
decreases-loop-top l = load (rest_of l.space) breadth l.levels l.joining.arrays.items
