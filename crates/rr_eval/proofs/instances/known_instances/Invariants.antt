-- So far what is known of each class stands at its number.
use Rattle.std.proofs.Common.{◌≡◌, length}
use Rattle.rr_eval.specs.Prepared.{AreKnown}
use Rattle.rr_eval.specs.Turns.{context_of}
use Rattle.rr_eval.proofs.instances.known_instances.Given as goal

abbrev pub invariant-loop-number : goal.invariant-loop-number
invariant-loop-number l = AreKnown (context_of l.program) l.known.items × (length l.known.items ≡ l.number)
