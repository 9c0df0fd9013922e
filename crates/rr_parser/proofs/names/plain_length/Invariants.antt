use Rattle.std.proofs.Common.{◌≡◌, ◌++◌, take, drop, false}
use Rattle.rr_lexer.specs.Contents.{text_body}
use Rattle.rr_parser.proofs.names.plain_length.Given as goal

abbrev pub invariant-loop-i : goal.invariant-loop-i
invariant-loop-i l = text_body l.bytes false ≡ take l.i l.bytes ++ text_body (drop l.i l.bytes) false
