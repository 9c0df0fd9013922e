use Rattle.rr_space.proofs.Paging.{none_placed}
use Rattle.rr_space.proofs.slot_set.SlotSet.new.Goals as goal

pub invariant_of-result : goal.invariant_of-result
invariant_of-result c = none_placed c.new.result.items c.new-2.result c.new.ensures.items
