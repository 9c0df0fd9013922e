use Rattle.std.proofs.Common.{ap, ◌∙◌, ℕ}
use Rattle.std.specs.Prelude.{bytes_eq}
use Rattle.rr_base.specs.declared.name.Sym.{Sym}
use Rattle.rr_parser.proofs.Numbers.{names_added, place_now}
use Rattle.rr_parser.proofs.names.Numbering.looked_up.Goals as goal

abbrev sym_of : ℕ → Sym
sym_of n = record { 0 = n }

pub returns-clause-names : goal.returns-clause-names
returns-clause-names c = names_added (bytes_eq c.args.name.now) _ _ _ c.in_ok-place.ensures.keys

pub returns-clause-number : goal.returns-clause-number
returns-clause-number c = ap sym_of (c.in_ok-number.ensures ∙ c.in_ok-place.ensures.index ∙ place_now (bytes_eq c.args.name.now) c.args.self.now.names.keys)
