use Rattle.rr_lexer.proofs.Order.{in_order}
use Rattle.rr_lexer.proofs.laws.tokens_are_in_order.Goals as goal

pub returns : goal.returns
returns c = in_order
