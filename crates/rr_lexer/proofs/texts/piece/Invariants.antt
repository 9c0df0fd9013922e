use Rattle.std.proofs.Common.{◌≡◌, drop}
use Rattle.rr_lexer.specs.Scans.{piece, further}
use Rattle.rr_lexer.proofs.texts.piece.Given as goal
use Rattle.rr_lexer.specs.declared.texts.Mode.TheVariants.{Plain}

abbrev pub invariant-loop-i : goal.invariant-loop-i
invariant-loop-i l = piece l.rest Plain ≡ further l.i (piece (drop l.i l.rest) l.mode)
