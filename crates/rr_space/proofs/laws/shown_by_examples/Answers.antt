use Rattle.rr_space.proofs.Examples.{examples}
use Rattle.rr_space.proofs.laws.shown_by_examples.Goals as goal

pub returns : goal.returns
returns c = examples
