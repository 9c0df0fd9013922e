use Rattle.std.proofs.Common.{◌≡◌, length}
use Rattle.rr_parser.specs.Grammar.Blocks.{more_names, names_to}
use Rattle.rr_parser.proofs.Scopes.{behind_names}
use Rattle.rr_parser.proofs.blocks.names_to.Given as goal

abbrev pub invariant-loop-after : goal.invariant-loop-after
invariant-loop-after l = names_to l.end l.fn.words ≡ behind_names l.names.items (more_names l.end l.rest)

abbrev pub decreases-loop-after : goal.decreases-loop-after
decreases-loop-after l = length l.rest
