use Rattle.rr_space.proofs.Inside.{alike_inside}
use Rattle.rr_space.proofs.laws.shown_by_embedding.Goals as goal

pub returns : goal.returns
returns c = alike_inside
