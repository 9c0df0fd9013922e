-- The targets so far are local variables.
use Rattle.std.proofs.Common.{◌≡◌, ℕ, ◌-◌, ◌<◌, ◌≤◌, None}
use Rattle.rr_tree.specs.Tree.{tree_at}
use Rattle.rr_eval.specs.Basics.{variable_of}
use Rattle.rr_eval.proofs.usual_several.are_variables.Given as goal

abbrev pub invariant-loop-left : goal.invariant-loop-left
invariant-loop-left l = record {
  fewer : l.left ≤ l.count;
  are : (k : ℕ) → l.left < k → k ≤ l.count → variable_of (tree_at l.program.nodes.items (l.end - k)) ≡ None → ⊥;
}

abbrev pub decreases-loop-left : goal.decreases-loop-left
decreases-loop-left l = l.left
