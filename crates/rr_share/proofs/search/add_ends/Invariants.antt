use Rattle.rr_space.specs.Tables.{space_graph}
use Rattle.rr_share.specs.Search.{Adds, LeadsBelow}
use Rattle.rr_share.proofs.search.add_ends.Given as goal

abbrev pub invariant-loop-k : goal.invariant-loop-k
invariant-loop-k l = Adds (LeadsBelow (space_graph l.space) l.slot l.k) l.initial.found l.found
