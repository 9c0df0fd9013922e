-- Variables of frames, any number of scopes outside.
use Rattle.std.specs.Prelude.{ℕ, zero, suc, ◌-◌, List, length}
use Rattle.rr_space.specs.declared.refer.Ref.{Ref}
use Rattle.rr_frames.specs.Frames.{Frame, frame_at, read_at, write_at}
use Rattle.rr_eval.specs.declared.call_stack.Variable.{Variable}

-- the number of the frame that runs
abbrev pub top : List Frame → ℕ
top frames = length frames - 1

-- the number of the frame so many scopes outside of a frame
abbrev pub outer : ℕ → ℕ → List Frame → ℕ
outer zero number frames = number
outer (suc depth) number frames = outer depth (frame_at number frames).activation.home frames

-- the value of a variable, as the frame that runs sees it; nil where there is none
abbrev pub read_variable : Variable → List Frame → Ref
read_variable x frames = read_at (outer x.depth (top frames) frames) x.slot frames

-- the variable has another value, where there is one
abbrev pub write_variable : Variable → Ref → List Frame → List Frame
write_variable x value frames = write_at (outer x.depth (top frames) frames) x.slot value frames
