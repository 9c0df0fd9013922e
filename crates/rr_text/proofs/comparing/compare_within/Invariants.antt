use Rattle.std.proofs.Common.{◌≡◌, ◌≤◌, [], length}
use Rattle.rr_space.specs.Tables.{Below, resolve}
use Rattle.rr_space.specs.Parts.{value_of}
use Rattle.rr_text.specs.Reads.{IsReadWith, IsAmong}
use Rattle.rr_text.specs.Rest.{whole, load}
use Rattle.rr_text.specs.Frames.{breadth}
use Rattle.rr_text.specs.Comparing.{same_pair, look_pair, compared}
use Rattle.rr_text.specs.Keys.{reading}
use Rattle.rr_text.specs.Beside.{begun_of, sides_of, AreAmong}
use Rattle.rr_text.proofs.comparing.compare_within.Given as goal

abbrev pub invariant-loop-top : goal.invariant-loop-top
invariant-loop-top l = record {
  fit : length l.frames.items ≤ l.levels;
  among : (below : Below) → IsReadWith l.space below → IsAmong below l.fn.left → IsAmong below l.fn.right → AreAmong below l.frames.items;
  same : (below : Below) → IsReadWith l.space below → IsAmong below l.fn.left → IsAmong below l.fn.right
      → compared (reading l.space below) l.levels (resolve l.space.slots (value_of l.fn.left)) (resolve l.space.slots (value_of l.fn.right))
      ≡ whole (look_pair (reading l.space below)) same_pair (begun_of l.space.slots) l.levels l.frames.items [];
}

abbrev pub decreases-loop-top : goal.decreases-loop-top
decreases-loop-top l = load sides_of breadth l.levels l.frames.items
