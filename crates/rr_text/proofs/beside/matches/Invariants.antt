use Rattle.std.proofs.Common.{◌≡◌, drop, map}
use Rattle.std.specs.List.{All}
use Rattle.rr_space.specs.Parts.{value_of}
use Rattle.rr_space.specs.Tables.{Below, graph_of, resolve}
use Rattle.rr_text.specs.Same.{triples_in}
use Rattle.rr_text.specs.Keys.{pairs_in, reading}
use Rattle.rr_text.specs.Comparing.{value_under, matches}
use Rattle.rr_text.specs.Beside.{resolved, IsKnownBeside}
use Rattle.rr_text.specs.Reads.{IsAmong, IsReadWith}
use Rattle.rr_text.proofs.Sided.{found_after}
use Rattle.rr_text.proofs.beside.matches.Given as goal

abbrev pub invariant-loop-pair : goal.invariant-loop-pair
invariant-loop-pair l = record {
  sides : (below : Below) → IsReadWith l.space below → IsAmong below l.fn.left → IsAmong below l.fn.right
      → matches (value_under (reading l.space below) (resolve l.space.slots (value_of l.fn.right))) (pairs_in (triples_in (graph_of l.space.slots below) (resolve l.space.slots (value_of l.fn.left))))
      ≡ found_after (value_under (reading l.space below) (resolve l.space.slots (value_of l.fn.right))) (map (resolved l.space.slots) l.sides.items)
      (drop l.pair (pairs_in (triples_in (graph_of l.space.slots below) (resolve l.space.slots (value_of l.fn.left)))));
  known : All (IsKnownBeside l.space l.fn.left l.fn.right) l.sides.items;
}
