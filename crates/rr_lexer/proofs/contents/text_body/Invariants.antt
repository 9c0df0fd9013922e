use Rattle.std.proofs.Common.{◌≡◌, ◌++◌, false, length}
use Rattle.rr_lexer.specs.Contents.{text_body}
use Rattle.rr_lexer.proofs.contents.text_body.Given as goal

abbrev pub invariant-loop-rest : goal.invariant-loop-rest
invariant-loop-rest l = text_body l.bytes false ≡ l.body.items ++ text_body l.rest l.escaped

abbrev pub decreases-loop-rest : goal.decreases-loop-rest
decreases-loop-rest l = length l.rest
