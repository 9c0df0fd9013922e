use Rattle.rr_space.proofs.Spaces.{spaces_are_inside}
use Rattle.rr_space.proofs.laws.shown_by_spaces.Goals as goal

pub returns : goal.returns
returns c = spaces_are_inside
