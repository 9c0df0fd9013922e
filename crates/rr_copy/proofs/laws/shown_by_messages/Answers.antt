use Rattle.rr_copy.proofs.Shut.{message_is_shut}
use Rattle.rr_copy.proofs.laws.shown_by_messages.Goals as goal

pub returns : goal.returns
returns c = message_is_shut
