-- The parts so far stand at their places.
use Rattle.std.specs.Prelude.{◌≡◌, length}
use Rattle.rr_eval.specs.SimpleParts.{AreSimple}
use Rattle.rr_eval.proofs.simple_parts.simple_parts.Given as goal

abbrev pub invariant-loop-number : goal.invariant-loop-number
invariant-loop-number l = AreSimple l.program l.links.items l.parts.items × (length l.parts.items ≡ l.number)
