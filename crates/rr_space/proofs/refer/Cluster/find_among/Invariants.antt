use Rattle.std.proofs.Common.{ℕ, ◌<◌, List, Contains}
use Rattle.rr_space.specs.Graph.{Object}
use Rattle.rr_space.specs.Tables.{below_hold}
use Rattle.rr_space.specs.Parts.{below_parts, pairs_from}
use Rattle.rr_space.specs.Views.{key_of}
use Rattle.rr_space.specs.Lookups.{IsOneEach, IsKeyOfPair}
use Rattle.rr_space.proofs.refer.Cluster.find_among.Given as goal

abbrev pub invariant-loop-k : goal.invariant-loop-k
invariant-loop-k l =
    IsOneEach (below_hold l.self) → ((e : ℕ × List Object) → Contains (below_parts (pairs_from 0 l.pairs)) e → Contains (below_hold l.self) e)
    → (j : ℕ) → j < l.k → IsKeyOfPair l.self l.pairs (key_of l.key) j → ⊥
