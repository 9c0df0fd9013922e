-- What the store's events replay to.
use Rattle.std.specs.Prelude.{ℕ, ◌≡◌, ◌≢◌, ◌+◌, Option, Some, None}
use Rattle.rr_base.specs.declared.event.StoreEvent.{StoreEvent}
use Rattle.rr_base.specs.declared.event.StoreEvent.TheVariants.{Published, Shared, Own}

-- what a constant was last set to: a shareable value, or one of the main ractor's own
pub data Mark : Type 0 where
  IsShared : Mark
  IsOwn : Mark

-- the number of clusters, and the mark of each name
pub record StoreShape (N : Type 0) : Type 0 where
  pub clusters : ℕ
  pub marks : N → Option Mark

abbrev pub empty_store : {N : Type 0} → StoreShape N
empty_store = record { clusters = 0; marks = λ _. None }

-- one name has the mark, and nothing else changes
pub record IsMarked {N : Type 0} (x : StoreShape N) (n : N) (m : Mark) (y : StoreShape N) : Type 0 where
  pub same_clusters : y.clusters ≡ x.clusters
  pub here : y.marks n ≡ Some m
  pub others : (k : N) → k ≢ n → y.marks k ≡ x.marks k

-- Only the main ractor, number 1, sets a constant to a value of its own.
abbrev pub StoreStep : {N : Type 0} → StoreShape N → StoreEvent N → StoreShape N → Type 0
StoreStep x (Published n s w) y = (n ≡ x.clusters) × (y ≡ record { clusters = x.clusters + 1; marks = x.marks })
StoreStep x (Shared n w) y = IsMarked x n IsShared y
StoreStep x (Own n w) y = (w.0 ≡ 1) × IsMarked x n IsOwn y
