use Rattle.std.proofs.Common.{◌≡◌, false, drop}
use Rattle.rr_lexer.specs.Scans.{single_len, longer}
use Rattle.rr_lexer.proofs.texts.single_len.Given as goal

abbrev pub invariant-loop-i : goal.invariant-loop-i
invariant-loop-i l = single_len l.rest false ≡ longer l.i (single_len (drop l.i l.rest) l.escaped)
