-- The rest of the keys and values is still to be put.
use Rattle.std.proofs.Common.{length}
use Rattle.rr_eval.specs.Published.{published}
use Rattle.rr_eval.specs.Turns.{context_of}
use Rattle.rr_eval.proofs.Filling.{IsFilling}
use Rattle.rr_eval.proofs.hash.fill.Given as goal

abbrev pub invariant-loop-rest : goal.invariant-loop-rest
invariant-loop-rest l = IsFilling (context_of l.program) (published l.store) l.hash l.values l.rest l.initial.space l.space

abbrev pub decreases-loop-rest : goal.decreases-loop-rest
decreases-loop-rest l = length l.rest
