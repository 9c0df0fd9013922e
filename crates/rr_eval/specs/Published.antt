-- The clusters of a store, as a table leads to them.
use Rattle.std.specs.Prelude.{ℕ, List, map}
use Rattle.rr_space.specs.Graph.{Object}
use Rattle.rr_space.specs.Tables.{Whole, Below, outer_objects}
use Rattle.rr_store.specs.Stores.{Store}

-- a cluster under its number, its objects as they are seen from outside
abbrev pub entry_of : Whole → ℕ × List Object
entry_of w = (w.number, outer_objects w)

abbrev pub published : Store → Below
published s = map entry_of s.clusters
