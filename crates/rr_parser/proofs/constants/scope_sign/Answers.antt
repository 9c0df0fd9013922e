use Rattle.std.proofs.Common.{◌∙◌, rules}
use Rattle.rr_parser.specs.declared.word.WordKind.TheVariants as kind
use Rattle.rr_parser.proofs.Asked.{tight_by_cases, path_case, path_told}
use Rattle.rr_parser.proofs.constants.scope_sign.Goals as goal

pub returns-in_default : goal.returns-in_default
returns-in_default c = tight_by_cases kind.Path path_case path_told c.args.words.now ∙ search rules
