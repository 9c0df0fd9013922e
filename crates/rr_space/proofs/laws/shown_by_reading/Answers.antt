use Rattle.rr_space.proofs.Apart.{readings_are_apart, roots_are_local}
use Rattle.rr_space.proofs.laws.shown_by_reading.Goals as goal

pub returns : goal.returns
returns c = record { apart = readings_are_apart; roots = roots_are_local }
