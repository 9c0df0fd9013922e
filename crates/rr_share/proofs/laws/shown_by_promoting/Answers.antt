use Rattle.rr_share.proofs.Promoted.{promoting_publishes_all}
use Rattle.rr_share.proofs.laws.shown_by_promoting.Goals as goal

pub returns : goal.returns
returns c = promoting_publishes_all
