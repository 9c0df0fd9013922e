use Rattle.std.proofs.Common.{◌≡◌}
use Rattle.rr_space.specs.Views.{ref_behind}
use Rattle.rr_space.proofs.Shifting.{map_first}
use Rattle.rr_space.proofs.behind.refs_behind.Given as goal

abbrev pub invariant-loop-k : goal.invariant-loop-k
invariant-loop-k l = l.items.items ≡ map_first (ref_behind l.count) l.k l.fn.items.items
