use Rattle.rr_space.proofs.Copies.{copies_are_alike}
use Rattle.rr_space.proofs.laws.shown_by_copying.Goals as goal

pub returns : goal.returns
returns c = copies_are_alike
