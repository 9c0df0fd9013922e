-- So far each method stands at the number of its name.
use Rattle.std.proofs.Common.{◌≡◌, length}
use Rattle.rr_eval.specs.Prepared.{ArePlain}
use Rattle.rr_eval.specs.Turns.{context_of}
use Rattle.rr_eval.proofs.plain_methods.plain_methods.Given as goal

abbrev pub invariant-loop-number : goal.invariant-loop-number
invariant-loop-number l = ArePlain (context_of l.program) l.plain.items × (length l.plain.items ≡ l.number)
