use Rattle.std.proofs.Common.{◌≡◌, length, ◌+◌, ◌-◌}
use Rattle.rr_space.specs.Graph.{Own, At}
use Rattle.rr_space.specs.Parts.{value_of}
use Rattle.rr_space.specs.Tables.{space_graph, resolve}
use Rattle.rr_share.specs.Search.{Searched, LeadsOn, IsReached, slots_to}
use Rattle.rr_share.proofs.search.reached.Given as goal

abbrev pub invariant-loop-cursor : goal.invariant-loop-cursor
invariant-loop-cursor l = Searched (λ m. resolve l.space.slots (value_of l.fn.root) ≡ At (Own m)) (LeadsOn (space_graph l.space)) (IsReached l.space l.fn.root) l.cursor l.found

abbrev pub decreases-loop-cursor : goal.decreases-loop-cursor
decreases-loop-cursor l = length l.space.slots + slots_to l.fn.root - l.cursor
