-- The nodes so far stand at their places.
use Rattle.std.specs.Prelude.{◌≡◌, length}
use Rattle.rr_eval.specs.Nodes.{AreEvaluated}
use Rattle.rr_eval.proofs.evaluated_nodes.evaluated_nodes.Given as goal

abbrev pub invariant-loop-number : goal.invariant-loop-number
invariant-loop-number l = AreEvaluated l.program.nodes.items l.nodes.items × (length l.nodes.items ≡ l.number)
