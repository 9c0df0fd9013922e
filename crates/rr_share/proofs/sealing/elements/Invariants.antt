use Rattle.std.proofs.Common.{◌≡◌, take}
use Rattle.rr_share.proofs.sealing.elements.Given as goal

abbrev pub invariant-loop-k : goal.invariant-loop-k
invariant-loop-k l = l.elements.items ≡ take l.k l.items
