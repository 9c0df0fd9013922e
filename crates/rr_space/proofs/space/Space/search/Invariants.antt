use Rattle.std.proofs.Common.{◌≡◌, ℕ, ◌<◌, slice_get, Some}
use Rattle.rr_space.specs.Graph.{Value}
use Rattle.rr_space.specs.Labels.{label_of, triples_at}
use Rattle.rr_space.proofs.space.Space.search.Given as goal

abbrev pub invariant-loop-k : goal.invariant-loop-k
invariant-loop-k l = (j : ℕ) (x : Value) → j < l.k → slice_get (triples_at l.self l.value) j ≡ Some (label_of l.label, x) → ⊥
