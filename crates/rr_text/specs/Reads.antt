-- Clusters with which a table is read as a graph.
use Rattle.std.specs.Prelude.{◌≡◌, ℕ, List, Contains}
use Rattle.rr_space.specs.Graph.{Object}
use Rattle.rr_space.specs.Tables.{Below, Table, joined, resolve}
use Rattle.rr_space.specs.Lookups.{IsOneEach}
use Rattle.rr_space.specs.Parts.{value_of, below_ref}
use Rattle.rr_space.specs.declared.refer.Ref.{Ref}

-- each cluster that the reference leads to is one of these
abbrev pub IsAmong : Below → Ref → Type 0
IsAmong below r = (e : ℕ × List Object) → Contains (below_ref r) e → Contains below e

-- each cluster that the table leads to is one of these, and a number names one of them
pub record IsReadWith (t : Table) (below : Below) : Type 0 where
  pub one : IsOneEach below
  pub all : (e : ℕ × List Object) → Contains (joined t.below) e → Contains below e

-- the reference is no slot that was published since
abbrev pub IsAtEnd : Table → Ref → Type 0
IsAtEnd t r = resolve t.slots (value_of r) ≡ value_of r
