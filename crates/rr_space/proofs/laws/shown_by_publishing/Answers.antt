use Rattle.rr_space.proofs.Shares.{publishing_is_turning}
use Rattle.rr_space.proofs.laws.shown_by_publishing.Goals as goal

pub returns : goal.returns
returns c = publishing_is_turning
