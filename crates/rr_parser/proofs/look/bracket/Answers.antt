use Rattle.std.proofs.Common.{◌∙◌, rules}
use Rattle.rr_parser.specs.declared.word.WordKind.TheVariants as kind
use Rattle.rr_parser.proofs.Asked.{tight_by_cases, open_case, open_told}
use Rattle.rr_parser.proofs.look.bracket.Goals as goal

pub returns-in_default : goal.returns-in_default
returns-in_default c = tight_by_cases kind.Open open_case open_told c.args.words.now ∙ search rules
