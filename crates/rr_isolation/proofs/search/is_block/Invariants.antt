use Rattle.std.proofs.Common.{◌≡◌}
use Rattle.rr_tree.specs.Tree.{tree_at}
use Rattle.rr_isolation.proofs.search.is_block.Given as goal

abbrev pub invariant-loop-part : goal.invariant-loop-part
invariant-loop-part l = tree_at l.program.nodes.items l.here ≡ tree_at l.program.nodes.items l.id

abbrev pub decreases-loop-part : goal.decreases-loop-part
decreases-loop-part l = l.here
