use Rattle.std.proofs.Common.{take}
use Rattle.std.specs.List.{AllZip}
use Rattle.rr_share.specs.Plans.{IsSealedFrom}
use Rattle.rr_share.proofs.sealing.sealed_copies.Given as goal

abbrev pub invariant-loop-place : goal.invariant-loop-place
invariant-loop-place l = AllZip (IsSealedFrom l.space l.names) (take l.place l.names) l.copies.items
