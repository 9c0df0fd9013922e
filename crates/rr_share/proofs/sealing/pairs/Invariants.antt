use Rattle.std.proofs.Common.{◌≡◌, map, take}
use Rattle.rr_space.specs.Views.{entry_pair}
use Rattle.rr_share.proofs.sealing.pairs.Given as goal

abbrev pub invariant-loop-k : goal.invariant-loop-k
invariant-loop-k l = l.pairs.items ≡ map entry_pair (take l.k l.entries.entries)
