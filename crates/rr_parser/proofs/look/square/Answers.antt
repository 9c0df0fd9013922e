use Rattle.std.proofs.Common.{◌∙◌, rules}
use Rattle.rr_parser.specs.declared.word.WordKind.TheVariants as kind
use Rattle.rr_parser.proofs.Asked.{tight_by_cases, open_square_case, open_square_told}
use Rattle.rr_parser.proofs.look.square.Goals as goal

pub returns-in_default : goal.returns-in_default
returns-in_default c = tight_by_cases kind.OpenSquare open_square_case open_square_told c.args.words.now ∙ search rules
