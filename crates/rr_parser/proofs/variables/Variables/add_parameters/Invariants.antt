use Rattle.std.proofs.Common.{◌≡◌, drop}
use Rattle.rr_parser.specs.Grammar.Blocks.{with_parameters}
use Rattle.rr_parser.specs.Variables.{known_in}
use Rattle.rr_parser.proofs.variables.Variables.add_parameters.Given as goal

abbrev pub invariant-loop-name : goal.invariant-loop-name
invariant-loop-name l = with_parameters l.names (known_in l.fn.self) ≡ with_parameters (drop l.name-index l.names) (known_in l.self)
