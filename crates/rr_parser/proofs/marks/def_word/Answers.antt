use Rattle.std.proofs.Common.{◌∙◌, rules}
use Rattle.rr_parser.specs.declared.word.WordKind.TheVariants as kind
use Rattle.rr_parser.proofs.Asked.{word_by_cases, def_word_case, def_word_told}
use Rattle.rr_parser.proofs.marks.def_word.Goals as goal

pub returns-in_default : goal.returns-in_default
returns-in_default c = word_by_cases kind.Def def_word_case def_word_told c.args.words.now ∙ search rules
