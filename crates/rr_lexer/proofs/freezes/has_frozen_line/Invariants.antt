use Rattle.std.proofs.Common.{◌≡◌, true, length}
use Rattle.rr_lexer.specs.Freezes.{has_frozen_line}
use Rattle.rr_lexer.proofs.freezes.has_frozen_line.Given as goal

abbrev pub invariant-loop-rest : goal.invariant-loop-rest
invariant-loop-rest l = has_frozen_line true l.bytes ≡ has_frozen_line l.fresh l.rest

abbrev pub decreases-loop-rest : goal.decreases-loop-rest
decreases-loop-rest l = length l.rest
