use Rattle.rr_select.proofs.Once.{none_after_own}
use Rattle.rr_select.proofs.choice.takes_nothing_after_its_own.Goals as goal

pub returns : goal.returns
returns c = none_after_own
