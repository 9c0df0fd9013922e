use Rattle.std.proofs.Common.{◌∙◌, rules}
use Rattle.rr_parser.specs.declared.word.WordKind.TheVariants as kind
use Rattle.rr_parser.proofs.Asked.{word_by_cases, close_case, close_told}
use Rattle.rr_parser.proofs.marks.close.Goals as goal

pub returns-in_default : goal.returns-in_default
returns-in_default c = word_by_cases kind.Close close_case close_told c.args.words.now ∙ search rules
