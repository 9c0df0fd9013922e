use Rattle.rr_space.proofs.Paging.{HavePlaces}
use Rattle.rr_space.proofs.slot_set.keep_places.Given as goal

abbrev pub invariant-loop-place : goal.invariant-loop-place
invariant-loop-place l = HavePlaces l.place l.slots l.places
