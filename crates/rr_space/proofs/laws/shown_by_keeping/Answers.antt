use Rattle.rr_space.proofs.Keeping.{forwarded_is_exact}
use Rattle.rr_space.proofs.Preserving.{keeping_adds_up, promoting_keeps, opening_keeps, putting_back_keeps}
use Rattle.rr_space.proofs.laws.shown_by_keeping.Goals as goal

pub returns : goal.returns
returns c = record { exact = forwarded_is_exact; promoting = promoting_keeps; opening = opening_keeps; putting_back = putting_back_keeps; adds_up = keeping_adds_up }
