-- Containers that are compared, and the values in them that stand side by side.
use Rattle.std.specs.Prelude.{ℕ, ◌-◌, ◌+◌, ◌^◌, ◌<◌, ◌≤◌, suc, Bool, ◌||◌, List, [], map, drop, length}
use Rattle.std.specs.List.{All}
use Rattle.rr_space.specs.Tables.{Table, Slot, Below, resolve}
use Rattle.rr_space.specs.Parts.{value_of}
use Rattle.rr_space.specs.Kinds.{kind_at}
use Rattle.rr_space.specs.Views.{text_at, IsKnownFrom}
use Rattle.rr_space.specs.declared.refer.Ref.{Ref}
use Rattle.rr_text.specs.Walk.{Walked, Wrote, Differs, Deep, Shell, Look, Leaf, Branch}
use Rattle.rr_text.specs.Same.{same_value}
use Rattle.rr_text.specs.Keys.{Reading}
use Rattle.rr_text.specs.Comparing.{Pair, same_pair, text_if, likeness, part_of, look_pair}
use Rattle.rr_text.specs.Reads.{IsAmong}
use Rattle.rr_text.specs.Rest.{Begun, whole, load}
use Rattle.rr_text.specs.Frames.{breadth}
use Rattle.rr_text.specs.declared.beside.Sides.{Sides}
use Rattle.rr_text.specs.declared.sight.Sight.{Sight}
use Rattle.rr_text.specs.declared.sight.Sight.TheVariants.{Decided, Inside}
use Rattle.rr_text.specs.declared.sight.Compared.{Compared}
use Rattle.rr_text.specs.declared.sight.Compared.TheVariants as compared
use Rattle.rr_text.specs.declared.comparing.Beside.{Beside}

-- whether two references are one value, or lead to texts of the same bytes
abbrev pub equal_at : Table → Ref → Ref → Bool
equal_at t r s = same_value (resolve t.slots (value_of r)) (resolve t.slots (value_of s)) || text_if (likeness (kind_at t r) (kind_at t s)) (text_at t r) (text_at t s)

-- the values of two references
abbrev pub values_of : Sides → Pair
values_of s = (value_of s.left, value_of s.right)

-- the same, forwards followed
abbrev pub resolved : List Slot → Sides → Pair
resolved slots s = (resolve slots (value_of s.left), resolve slots (value_of s.right))

-- references that were read from these two
abbrev pub IsKnownBeside : Table → Ref → Ref → Sides → Type 0
IsKnownBeside t left right s = IsKnownFrom t left s.left × IsKnownFrom t right s.right

abbrev pub AreSidesAmong : Below → List Sides → Type 0
AreSidesAmong below sides = All (λ (s : Sides). IsAmong below s.left × IsAmong below s.right) sides

abbrev pub outcome_of : Compared → Walked
outcome_of compared.Same = Wrote []
outcome_of compared.Differs = Differs
outcome_of compared.Deep = Deep
outcome_of compared.Shell = Shell

-- what is found at two values
abbrev pub look_of : List Slot → Pair → Sight → Look ℕ Pair Pair
look_of slots p (Decided c) = Leaf (outcome_of c)
look_of slots p (Inside sides) = Branch p (Wrote []) [] (map part_of (map (resolved slots) sides.items)) []

abbrev pub IsSightKnown : Table → Ref → Ref → Sight → Type 0
IsSightKnown t left right (Decided c) = Unit {0}
IsSightKnown t left right (Inside sides) = All (IsKnownBeside t left right) sides.items

-- ---- The frames of the walk.

abbrev pub key_of : List Slot → Beside → Pair
key_of slots f = (resolve slots (value_of f.left), resolve slots (value_of f.right))

abbrev pub begun_of : List Slot → Beside → Begun ℕ Pair Pair
begun_of slots f = record { key = key_of slots f; parts = map part_of (map (resolved slots) (drop f.next f.sides.items)); closing = [] }

-- the values of a frame that are left
abbrev pub sides_of : Beside → ℕ
sides_of f = length f.sides.items - f.next

abbrev pub AreAmong : Below → List Beside → Type 0
AreAmong below frames = All (λ (f : Beside). AreSidesAmong below f.sides.items) frames

-- what is left to do grew by less than one part of the frame below
pub record IsGrown (levels : ℕ) (frames frames' : List Beside) : Type 0 where
  pub fit : length frames' ≤ levels
  pub light : load sides_of breadth levels frames' < load sides_of breadth levels frames + breadth ^ (suc levels - length frames)

module _ (r : Reading) (slots : List Slot) (levels : ℕ) where
  -- what the walk comes to with these frames: it ends, or it goes on with them
  abbrev pub ahead : Compared → List Beside → Walked
  ahead compared.Same frames = whole (look_pair r) same_pair (begun_of slots) levels frames []
  ahead compared.Differs frames = Differs
  ahead compared.Deep frames = Deep
  ahead compared.Shell frames = Shell
