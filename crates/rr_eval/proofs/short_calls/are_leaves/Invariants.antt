-- The last arguments so far are leaves.
use Rattle.std.specs.Prelude.{◌≡◌, ◌+◌, ◌-◌, ◌≤◌, List, true}
use Rattle.rr_tree.specs.Nodes.{trees_before}
use Rattle.rr_eval.specs.declared.chains.Link.{Link}
use Rattle.rr_eval.specs.SimpleParts.{AreSimple, are_leaves}
use Rattle.rr_eval.proofs.short_calls.are_leaves.Given as goal

abbrev pub invariant-loop-done : goal.invariant-loop-done
invariant-loop-done l = record {
  leaves : (links : List Link) → AreSimple l.program links l.parts.items → are_leaves (trees_before l.program.nodes.items (l.given.first + l.given.count) l.done) ≡ true;
  fewer : l.done ≤ l.given.count;
}

abbrev pub decreases-loop-done : goal.decreases-loop-done
decreases-loop-done l = l.given.count - l.done
