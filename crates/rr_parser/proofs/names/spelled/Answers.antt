use Rattle.std.proofs.Common.{ap, ◌∙◌}
use Rattle.rr_lexer.specs.Contents.{int_value_of}
use Rattle.rr_parser.proofs.Numerals.{digit_of_word}
use Rattle.rr_parser.proofs.names.spelled.Goals as goal

pub returns-in-len1 : goal.returns-in-len1
returns-in-len1 c = digit_of_word c.word.result.now c.from.result c.in-len1.len_at_least c.in-len1.len_below c.if-digit-ge48.true c.if-digit-le57.true c.from.ensures ∙ ap int_value_of c.word.ensures
