use Rattle.std.proofs.Common.{◌≡◌, ◌+◌, drop, map}
use Rattle.std.specs.Option.{option_map}
use Rattle.rr_space.specs.Parts.{value_of}
use Rattle.rr_space.specs.Tables.{Below, graph_of, resolve}
use Rattle.rr_space.specs.Views.{key_of}
use Rattle.rr_text.specs.Keys.{key_in, pairs_in, place_among}
use Rattle.rr_text.specs.Reads.{IsAmong, IsReadWith}
use Rattle.rr_text.specs.Same.{triples_in}
use Rattle.rr_text.proofs.pairs.pair_by_names.Given as goal

abbrev pub invariant-loop-pair : goal.invariant-loop-pair
invariant-loop-pair l =
    (below : Below) → IsReadWith l.space below → IsAmong below l.fn.hash
    → place_among (key_of l.key) (map (λ p. key_in (graph_of l.space.slots below) p.0) (pairs_in (triples_in (graph_of l.space.slots below) (resolve l.space.slots (value_of l.fn.hash)))))
    ≡ option_map (λ i. l.pair + i) (place_among (key_of l.key) (map (λ p. key_in (graph_of l.space.slots below) p.0) (drop l.pair (pairs_in (triples_in (graph_of l.space.slots below) (resolve l.space.slots (value_of l.fn.hash)))))))
