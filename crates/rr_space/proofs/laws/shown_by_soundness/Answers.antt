use Rattle.rr_space.proofs.Sounds.{sound_is_sealed, sound_is_shut}
use Rattle.rr_space.proofs.laws.shown_by_soundness.Goals as goal

pub returns : goal.returns
returns c = record { sealed = sound_is_sealed; shut = sound_is_shut }
