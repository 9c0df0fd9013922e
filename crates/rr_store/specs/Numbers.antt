-- Clusters by their numbers: what is led to is what the store has.
use Rattle.std.specs.Prelude.{◌≡◌, ℕ, ◌<◌, List, ◌++◌, [], ◌∷◌, Some, slice_get, Contains}
use Rattle.rr_space.specs.Graph.{Object}
use Rattle.rr_space.specs.Tables.{Whole, Below, outer_objects}
use Rattle.rr_space.specs.Lookups.{IsOneEach}

-- the store has a cluster of this number, with these objects as they are seen from outside
abbrev pub IsStored : List Whole → ℕ → List Object → Type 0
IsStored ws c os = (w : Whole) × (slice_get ws c ≡ Some w) × (os ≡ outer_objects w)

-- each of these clusters is the store's of that number
abbrev pub AreStored : List Whole → Below → Type 0
AreStored ws below = (c : ℕ) (os : List Object) → Contains below (c, os) → IsStored ws c os

-- each cluster leads to earlier ones of the store alone
abbrev pub LeadBack : List Whole → Type 0
LeadBack ws = (i : ℕ) (w : Whole) (c : ℕ) (os : List Object) → slice_get ws i ≡ Some w → Contains w.below (c, os) → (c < i) × IsStored ws c os

-- Where all clusters that are led to are the store's, a number names one cluster.
abbrev pub StoredAreOneEach : Type 0
StoredAreOneEach = (ws : List Whole) (below : Below) → AreStored ws below → IsOneEach below

-- What was the store's stays so when another cluster is published.
abbrev pub StoredStay : Type 0
StoredStay = (ws : List Whole) (w : Whole) (below : Below) → AreStored ws below → AreStored (ws ++ w ∷ []) below

-- Where a cluster that leads to the store's clusters alone is published, each still leads to earlier ones alone.
abbrev pub LeadBackStays : Type 0
LeadBackStays = (ws : List Whole) (w : Whole) → LeadBack ws → AreStored ws w.below → LeadBack (ws ++ w ∷ [])
