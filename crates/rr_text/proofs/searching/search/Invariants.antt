use Rattle.std.proofs.Common.{◌≡◌, drop}
use Rattle.rr_base.specs.declared.limits.TheConstants.Limits.{DEFAULT}
use Rattle.rr_space.specs.Tables.{Below, graph_of, resolve}
use Rattle.rr_space.specs.Parts.{value_of}
use Rattle.rr_text.specs.Reads.{IsReadWith, IsAmong}
use Rattle.rr_text.specs.Same.{triples_in}
use Rattle.rr_text.specs.Keys.{reading}
use Rattle.rr_text.specs.Comparing.{values_in, searched}
use Rattle.rr_text.proofs.searching.search.Given as goal

abbrev pub invariant-loop-place : goal.invariant-loop-place
invariant-loop-place l =
    (below : Below) → IsReadWith l.space below → IsAmong below l.fn.array → IsAmong below l.fn.value
    → searched (reading l.space below) DEFAULT.levels (resolve l.space.slots (value_of l.fn.value)) (values_in (triples_in (graph_of l.space.slots below) (resolve l.space.slots (value_of l.fn.array))))
    ≡ searched (reading l.space below) DEFAULT.levels (resolve l.space.slots (value_of l.fn.value)) (drop l.place (values_in (triples_in (graph_of l.space.slots below) (resolve l.space.slots (value_of l.fn.array)))))
