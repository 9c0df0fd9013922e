use Rattle.rr_lexer.proofs.Ints.{value_is_spelled}
use Rattle.rr_lexer.proofs.laws.ints_have_their_values.Goals as goal

pub returns : goal.returns
returns c = value_is_spelled
