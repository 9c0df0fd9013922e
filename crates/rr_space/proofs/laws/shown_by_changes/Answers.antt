use Rattle.rr_space.proofs.Changes.{closed_stays, frozen_shareable, promoted_part, emptied_open}
use Rattle.rr_space.proofs.laws.shown_by_changes.Goals as goal

pub returns : goal.returns
returns c = record { closed = closed_stays; frozen = frozen_shareable; promoted = promoted_part; emptied = emptied_open }
