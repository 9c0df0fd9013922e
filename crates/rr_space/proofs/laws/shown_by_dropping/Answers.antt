use Rattle.rr_space.proofs.Drops.{dropping_is_a_step}
use Rattle.rr_space.proofs.laws.shown_by_dropping.Goals as goal

pub returns : goal.returns
returns c = dropping_is_a_step
