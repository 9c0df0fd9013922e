use Rattle.std.proofs.Common.{take}
use Rattle.std.specs.List.{AllZip}
use Rattle.rr_copy.specs.Contents.{IsCarriedFrom}
use Rattle.rr_copy.proofs.copy.copies_of.Given as goal

abbrev pub invariant-loop-place : goal.invariant-loop-place
invariant-loop-place l = AllZip (IsCarriedFrom l.space l.names) (take l.place l.names) l.copies.items
