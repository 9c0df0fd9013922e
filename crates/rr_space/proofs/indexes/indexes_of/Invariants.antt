use Rattle.std.proofs.Common.{map, take}
use Rattle.std.specs.List.{AllZip}
use Rattle.rr_space.specs.Parts.{sealed_object}
use Rattle.rr_space.specs.Indexes.{IsIndexed}
use Rattle.rr_space.proofs.indexes.indexes_of.Given as goal

abbrev pub invariant-loop-place : goal.invariant-loop-place
invariant-loop-place l = AllZip (IsIndexed (λ b. b.value.entries) (map sealed_object l.nodes)) (take l.place l.nodes) l.indexes.items
