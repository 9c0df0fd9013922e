use Rattle.std.proofs.Common.{◌≡◌, ◌-◌, ◌++◌}
use Rattle.std.specs.List.{range_with_len}
use Rattle.rr_isolation.specs.Numbers.{spots}
use Rattle.rr_isolation.proofs.search.push_items.Given as goal

abbrev pub invariant-loop-node : goal.invariant-loop-node
invariant-loop-node l = l.pending.items ≡ l.initial.pending.items ++ spots l.blocks (range_with_len l.first (l.node - l.first))
