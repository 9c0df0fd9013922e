use Rattle.rr_builtin.proofs.Copying.{AreCopied}
use Rattle.rr_builtin.proofs.copies.fields.Given as goal

abbrev pub invariant-loop-place : goal.invariant-loop-place
invariant-loop-place l = AreCopied l.space l.object l.fields.items l.place
