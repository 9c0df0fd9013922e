use Rattle.std.proofs.Common.{[]}
use Rattle.rr_select.proofs.Once.{once}
use Rattle.rr_select.proofs.choice.moves_at_most_one.Goals as goal

pub returns : goal.returns
returns c = λ count own answers. once count own [] answers
