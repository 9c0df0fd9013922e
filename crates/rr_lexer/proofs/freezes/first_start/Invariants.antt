use Rattle.std.proofs.Common.{◌≡◌, drop}
use Rattle.rr_lexer.specs.Freezes.{first_start}
use Rattle.rr_lexer.proofs.freezes.first_start.Given as goal

abbrev pub invariant-loop-token : goal.invariant-loop-token
invariant-loop-token l = first_start l.size l.tokens ≡ first_start l.size (drop l.token-index l.tokens)
