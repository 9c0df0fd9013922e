use Rattle.std.proofs.Common.{◌∙◌, rules}
use Rattle.rr_parser.specs.declared.word.WordKind.TheVariants as kind
use Rattle.rr_parser.proofs.Asked.{word_by_cases, arrow_case, arrow_told}
use Rattle.rr_parser.proofs.marks.arrow.Goals as goal

pub returns-in_default : goal.returns-in_default
returns-in_default c = word_by_cases kind.Arrow arrow_case arrow_told c.args.words.now ∙ search rules
