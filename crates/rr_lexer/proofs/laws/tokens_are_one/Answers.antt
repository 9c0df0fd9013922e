use Rattle.rr_lexer.proofs.Tiling.{same_tokens}
use Rattle.rr_lexer.proofs.laws.tokens_are_one.Goals as goal

pub returns : goal.returns
returns c = same_tokens
