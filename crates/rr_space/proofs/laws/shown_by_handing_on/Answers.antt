use Rattle.rr_space.proofs.Hands.{hands_on}
use Rattle.rr_space.proofs.laws.shown_by_handing_on.Goals as goal

pub returns : goal.returns
returns c = hands_on
