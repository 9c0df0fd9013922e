-- Places by slot, in pages of 512 slots.
use Rattle.std.specs.Prelude.{◌≡◌, ◌+◌, ◌*◌, ◌/◌, ◌%◌, ◌≤◌, ◌<◌, ℕ, zero, suc, List, length, slice_get, Option, Some, None}

-- the place at k in the part of the places that has the number; the first part has 1, and 0 is none
abbrev pub in_part : List ℕ → Option ℕ → ℕ → Option ℕ
in_part places None k = None
in_part places (Some zero) k = None
in_part places (Some (suc part)) k = slice_get places (part * 512 + k)

-- the place of a slot, if the page of the slot has a part
abbrev pub place_in : List ℕ → List ℕ → ℕ → Option ℕ
place_in pages places slot = in_part places (slice_get pages (slot / 512)) (slot % 512)

-- the place of a slot in a table of pages and places
abbrev pub place_of : List ℕ × List ℕ → ℕ → Option ℕ
place_of table slot = place_in table.0 table.1 slot

-- each part that a page has is there, and no two pages have one
pub record ArePaged (pages places : List ℕ) : Type 0 where
  pub room : (p n : ℕ) → slice_get pages p ≡ Some n → n * 512 ≤ length places
  pub apart : (p q n : ℕ) → 1 ≤ n → slice_get pages p ≡ Some n → slice_get pages q ≡ Some n → p ≡ q

-- what stood in the list stands there still
pub record Extends (old new : List ℕ) : Type 0 where
  pub kept : (i x : ℕ) → slice_get old i ≡ Some x → slice_get new i ≡ Some x
  pub longer : length old ≤ length new

-- the table has the place of each slot of a list
abbrev pub HasPlaces : List ℕ → List ℕ × List ℕ → Type 0
HasPlaces slots table = (i slot : ℕ) → slice_get slots i ≡ Some slot → place_of table slot ≡ Some i

-- where the list has more than eight slots
abbrev pub ArePlaced : List ℕ → List ℕ × List ℕ → Type 0
ArePlaced slots table = 8 < length slots → HasPlaces slots table
