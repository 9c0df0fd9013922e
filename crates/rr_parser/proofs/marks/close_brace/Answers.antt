use Rattle.std.proofs.Common.{◌∙◌, rules}
use Rattle.rr_parser.specs.declared.word.WordKind.TheVariants as kind
use Rattle.rr_parser.proofs.Asked.{word_by_cases, close_brace_case, close_brace_told}
use Rattle.rr_parser.proofs.marks.close_brace.Goals as goal

pub returns-in_default : goal.returns-in_default
returns-in_default c = word_by_cases kind.CloseBrace close_brace_case close_brace_told c.args.words.now ∙ search rules
