use Rattle.rr_space.proofs.Remaking.{remaking_is_a_step}
use Rattle.rr_space.proofs.laws.shown_by_remaking.Goals as goal

pub returns : goal.returns
returns c = remaking_is_a_step
