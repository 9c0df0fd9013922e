-- Frames and their variables.
use Rattle.std.specs.Prelude.{ℕ, ◌-◌, List, [], ◌∷◌, ◌++◌, length, take, replicate, slice_index_or, slice_set, Option, Some, None}
use Rattle.rr_base.specs.declared.name.TheConstants.ClassId.{OBJECT}
use Rattle.rr_space.specs.declared.refer.Ref.{Ref}
use Rattle.rr_space.specs.declared.refer.Ref.TheVariants.{Nil}
use Rattle.rr_frames.specs.declared.activation.Activation.{Activation}
use Rattle.rr_frames.specs.declared.activation.Given.TheVariants.{Nothing}

-- a frame: its variables, and what else it has
pub record Frame : Type 0 where
  pub variables : List Ref
  pub activation : Activation

-- the frames, the first one first, and how many there may be
pub record Stack : Type 0 where
  pub frames : List Frame
  pub limit : ℕ

abbrev pub no_frames : ℕ → Stack
no_frames limit = record { frames = []; limit = limit }

abbrev pub list_of : Option Ref → List Ref
list_of None = []
list_of (Some v) = v ∷ []

-- The variables of a new frame: the parameters have the first values, and all else is nil.
abbrev pub laid : ℕ → ℕ → List Ref → List Ref
laid parameters size values = let kept = take parameters values in take size kept ++ replicate (size - length kept) Nil

-- what stands for a frame where there is none
abbrev pub no_frame : Frame
no_frame = record { variables = []; activation = record { itself = Nil; given = Nothing; home = 0; root = 0; name = record { 0 = 0 }; class = OBJECT; parameters = 0 } }

abbrev pub frame_at : ℕ → List Frame → Frame
frame_at number frames = slice_index_or frames number no_frame

-- a variable of a frame; nil where there is none
abbrev pub read_at : ℕ → ℕ → List Frame → Ref
read_at number place frames = slice_index_or (frame_at number frames).variables place Nil

-- a variable of a frame has another value, where there is one
abbrev pub write_at : ℕ → ℕ → Ref → List Frame → List Frame
write_at number place value frames = slice_set frames number (record (frame_at number frames) { variables = slice_set (frame_at number frames).variables place value })

-- the same of the last frame
abbrev pub read_last : ℕ → List Frame → Ref
read_last place frames = read_at (length frames - 1) place frames

abbrev pub write_last : ℕ → Ref → List Frame → List Frame
write_last place value frames = write_at (length frames - 1) place value frames

-- the frames without the last one
abbrev pub left : List Frame → List Frame
left frames = take (length frames - 1) frames
