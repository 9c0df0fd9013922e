use Rattle.rr_lexer.proofs.Joining.{Joins}
use Rattle.rr_lexer.proofs.lines.join.Given as goal

abbrev pub invariant-loop-i : goal.invariant-loop-i
invariant-loop-i l = Joins l.initial.tokens.items l.tokens.items l.kept l.i l.gap
