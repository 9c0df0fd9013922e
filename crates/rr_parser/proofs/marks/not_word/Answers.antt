use Rattle.std.proofs.Common.{◌∙◌, rules}
use Rattle.rr_parser.specs.declared.word.WordKind.TheVariants as kind
use Rattle.rr_parser.proofs.Asked.{word_by_cases, not_word_case, not_word_told}
use Rattle.rr_parser.proofs.marks.not_word.Goals as goal

pub returns-in_default : goal.returns-in_default
returns-in_default c = word_by_cases kind.NotWord not_word_case not_word_told c.args.words.now ∙ search rules
