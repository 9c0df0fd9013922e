use Rattle.rr_space.specs.Tables.{space_graph}
use Rattle.rr_share.specs.Marks.{Sourced, LeadsBefore}
use Rattle.rr_share.proofs.sources.add_sources.Given as goal

abbrev pub invariant-loop-k : goal.invariant-loop-k
invariant-loop-k l = Sourced l.found (LeadsBefore (space_graph l.space) l.found l.fn.place l.k) l.sources
