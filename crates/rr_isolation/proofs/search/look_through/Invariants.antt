use Rattle.rr_isolation.proofs.Searching.{IsSearch}
use Rattle.rr_isolation.proofs.Weights.{weights}
use Rattle.rr_isolation.proofs.search.look_through.Given as goal

abbrev pub invariant-loop-spot : goal.invariant-loop-spot
invariant-loop-spot l = IsSearch l.program.nodes.items l.block l.found l.pending.items

abbrev pub decreases-loop-spot : goal.decreases-loop-spot
decreases-loop-spot l = weights l.pending.items
