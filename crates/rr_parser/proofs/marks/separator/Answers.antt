use Rattle.std.proofs.Common.{◌∙◌, rules}
use Rattle.rr_parser.specs.declared.word.WordKind.TheVariants as kind
use Rattle.rr_parser.proofs.Asked.{word_by_cases, separator_case, separator_told}
use Rattle.rr_parser.proofs.marks.separator.Goals as goal

pub returns-in_default : goal.returns-in_default
returns-in_default c = word_by_cases kind.Separator separator_case separator_told c.args.words.now ∙ search rules
