use Rattle.std.proofs.Common.{◌≡◌, length}
use Rattle.rr_parser.specs.Places.{without_separators}
use Rattle.rr_parser.proofs.look.without_separators.Given as goal

abbrev pub invariant-loop-rest : goal.invariant-loop-rest
invariant-loop-rest l = without_separators l.words ≡ without_separators l.rest

abbrev pub decreases-loop-rest : goal.decreases-loop-rest
decreases-loop-rest l = length l.rest
