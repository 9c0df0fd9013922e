-- Where the variables of frames lie.
use Rattle.std.specs.Prelude.{◌≡◌, ℕ, ◌+◌, ◌-◌, ◌≤◌, List, [], ◌∷◌, length, take, drop, map, slice_index_or}
use Rattle.rr_space.specs.declared.refer.Ref.{Ref}
use Rattle.rr_frames.specs.declared.frames.Row.{Row}
use Rattle.rr_frames.specs.Frames.{Frame, no_frame}

abbrev pub frame_of : List Ref → Row → Frame
frame_of slots row = record { variables = take row.size (drop row.base slots); activation = row.activation }

abbrev pub frames_of : List Ref → List Row → List Frame
frames_of slots rows = map (frame_of slots) rows

-- from a place on the variables of the frames lie one after the other, up to an end
abbrev pub LieFrom : ℕ → List Row → ℕ → Type 0
LieFrom start [] end = start ≡ end
LieFrom start (row ∷ rows) end = (row.base ≡ start) × LieFrom (start + row.size) rows end

-- they fill the slots, and there are no more frames than there may be
abbrev pub IsLaid : List Ref → List Row → ℕ → Type 0
IsLaid slots rows limit = LieFrom 0 rows (length slots) × (length rows ≤ limit)

-- what stands for a row where there is none
abbrev pub no_row : Row
no_row = record { base = 0; size = 0; activation = no_frame.activation }

abbrev pub last_row : List Row → Row
last_row rows = slice_index_or rows (length rows - 1) no_row

-- where the variables of the last frame lie, and how many it has; 0 and 0 where there is no frame
abbrev pub IsLast : List Row → ℕ → ℕ → Type 0
IsLast rows base size = (base ≡ (last_row rows).base) × (size ≡ (last_row rows).size)
