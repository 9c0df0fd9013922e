use Rattle.rr_space.proofs.Cases.{copies_in_the_whole, empty_is_read}
use Rattle.rr_space.proofs.laws.shown_by_cases.Goals as goal

pub returns : goal.returns
returns c = record { copies = copies_in_the_whole; empty = empty_is_read }
