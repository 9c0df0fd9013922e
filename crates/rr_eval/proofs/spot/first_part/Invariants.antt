-- The targets before have no parts.
use Rattle.std.proofs.Common.{◌≡◌}
use Rattle.rr_tree.specs.Nodes.{trees_before}
use Rattle.rr_eval.specs.Several.{all_parts}
use Rattle.rr_eval.proofs.spot.first_part.Given as goal

abbrev pub invariant-loop-left : goal.invariant-loop-left
invariant-loop-left l = all_parts (trees_before l.program.nodes.items l.end l.count) ≡ all_parts (trees_before l.program.nodes.items l.end l.left)

abbrev pub decreases-loop-left : goal.decreases-loop-left
decreases-loop-left l = l.left
