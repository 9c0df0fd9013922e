use Rattle.std.proofs.Common.{◌∙◌, rules}
use Rattle.rr_parser.specs.declared.word.WordKind.TheVariants as kind
use Rattle.rr_parser.proofs.Asked.{word_by_cases, minus_case, minus_told}
use Rattle.rr_parser.proofs.marks.minus.Goals as goal

pub returns-in_default : goal.returns-in_default
returns-in_default c = word_by_cases kind.Minus minus_case minus_told c.args.words.now ∙ search rules
