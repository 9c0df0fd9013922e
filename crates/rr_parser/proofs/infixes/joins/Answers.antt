use Rattle.std.proofs.Common.{◌∙◌, rules}
use Rattle.rr_parser.proofs.Asked.{question_told}
use Rattle.rr_parser.proofs.infixes.joins.Goals as goal

pub returns-in_default : goal.returns-in_default
returns-in_default c = record { operators = search rules; connectives = search rules; question = λ e. question_told c.args.kind ∙ search rules }
