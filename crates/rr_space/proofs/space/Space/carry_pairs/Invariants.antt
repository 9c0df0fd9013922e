use Rattle.std.proofs.Common.{take}
use Rattle.std.specs.List.{AllZip}
use Rattle.rr_space.specs.Views.{IsCarriedEntry}
use Rattle.rr_space.proofs.space.Space.carry_pairs.Given as goal

abbrev pub invariant-loop-k : goal.invariant-loop-k
invariant-loop-k l = AllZip (IsCarriedEntry l.self l.names) (take l.k l.entries.entries) l.copies.entries
