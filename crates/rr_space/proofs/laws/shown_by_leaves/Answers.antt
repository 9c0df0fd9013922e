use Rattle.rr_space.proofs.Leaves.{leaves_suffice}
use Rattle.rr_space.proofs.laws.shown_by_leaves.Goals as goal

pub returns : goal.returns
returns c = leaves_suffice
