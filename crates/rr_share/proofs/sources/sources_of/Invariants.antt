use Rattle.rr_space.specs.Tables.{space_graph}
use Rattle.rr_share.specs.Marks.{Sourced, LeadsBefore}
use Rattle.rr_share.proofs.sources.sources_of.Given as goal

abbrev pub invariant-loop-place : goal.invariant-loop-place
invariant-loop-place l = Sourced l.found (LeadsBefore (space_graph l.space) l.found l.place 0) l.sources
