-- How much a message has, and what is so of each of its objects.
use Rattle.std.specs.Prelude.{◌≡◌, ◌+◌, ◌<◌, ◌++◌, ℕ, length, map}
use Rattle.rr_space.specs.Graph.{Own, IsPart}
use Rattle.rr_space.specs.Tables.{Here, Packed, joined, message_graph}
use Rattle.rr_space.specs.Sound.{IsStanding, IsBelowSound, IsTableSound}
use Rattle.rr_space.specs.Readings.{Knows, IsShut}
use Rattle.rr_space.specs.Tables.{There}
use Rattle.rr_space.specs.Readings.{Layout}

-- the number of the message's own objects
abbrev pub size_of : Packed → ℕ
size_of m = length m.objects

-- an object of the message goes with the slot as far behind the first k
abbrev pub Behind : Packed → ℕ → ℕ → ℕ → Type 0
Behind m k i n = (i < length m.objects) × (n ≡ k + i)

-- the root leads to each object of the message, and none of them is shareable
abbrev pub IsEachPart : Packed → Type 0
IsEachPart m = (n : ℕ) → n < length m.objects → IsPart (message_graph m) m.root (Own n)

-- Each object leads to objects of the message and to the clusters that are listed for it, and so does the root. These
-- clusters are frozen throughout, hold no shells, and lead to listed ones alone.
pub record IsMessageSound (m : Packed) : Type 0 where
  pub objects : IsTableSound (map Here m.objects) m.below
  pub root : IsStanding (length m.objects) m.root_below m.root
  pub root_below : IsBelowSound m.root_below

-- where the clusters that a sound message knows are the store's, no triple leads out of its graph, nor does its root
abbrev pub MessageIsShut : Type 0
MessageIsShut = (tables : Layout) (m : Packed) → IsMessageSound m → Knows (m.root_below ++ joined m.below) tables → IsShut (message_graph m) × There (message_graph m) m.root
