use Rattle.std.proofs.Common.{◌≡◌, ◌≤◌, length, take, vec_capacity}
use Rattle.std.specs.List.{AllZip}
use Rattle.rr_copy.specs.Contents.{IsCarriedFrom}
use Rattle.rr_move.proofs.Taking.{IsTakenFirst}
use Rattle.rr_move.proofs.detaching.take_all.Given as goal

abbrev pub invariant-loop-place : goal.invariant-loop-place
invariant-loop-place l = AllZip (IsCarriedFrom l.fn.space l.slots) (take l.place l.slots) l.objects.items × IsTakenFirst l.fn.space l.slots l.place l.space × (length l.slots ≤ vec_capacity l.objects) × (length l.objects.items ≡ l.place)
