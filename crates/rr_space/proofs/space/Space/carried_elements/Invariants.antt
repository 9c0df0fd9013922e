use Rattle.std.proofs.Common.{take}
use Rattle.std.specs.List.{AllZip}
use Rattle.rr_space.specs.Views.{IsCarried}
use Rattle.rr_space.proofs.space.Space.carried_elements.Given as goal

abbrev pub invariant-loop-k : goal.invariant-loop-k
invariant-loop-k l = AllZip (IsCarried l.self l.names) (take l.k l.items) l.copies.items
