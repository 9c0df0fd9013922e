use Rattle.std.proofs.Common.{◌≡◌}
use Rattle.rr_space.specs.Views.{entry_behind}
use Rattle.rr_space.proofs.Shifting.{map_first}
use Rattle.rr_space.proofs.behind.entries_behind.Given as goal

abbrev pub invariant-loop-k : goal.invariant-loop-k
invariant-loop-k l = l.entries.entries ≡ map_first (entry_behind l.count) l.k l.fn.entries.entries
