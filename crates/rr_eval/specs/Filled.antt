-- Trees with arguments in the place of a frame's variables.
use Rattle.std.specs.Prelude.{◌≡◌, ℕ, List, [], ◌∷◌, Option, Some, None}
use Rattle.rr_frames.specs.Frames.{Frame as Activated}
use Rattle.rr_space.specs.declared.refer.Ref.{Ref}
use Rattle.rr_space.specs.declared.refer.Ref.TheVariants.{Nil}
use Rattle.rr_tree.specs.Tree.{Tree}
use Rattle.rr_tree.specs.declared.program.Program.{Program}
use Rattle.rr_eval.specs.SimpleParts.{filled}
use Rattle.rr_eval.specs.Turns.{leaf_value}
use Rattle.rr_eval.specs.Unframed.{TakesInside}
use Rattle.rr_eval.specs.View.{View}

-- the values of leaves
abbrev pub value_or_nil : Option Ref → Ref
value_or_nil (Some v) = v
value_or_nil None = Nil

abbrev pub leaf_values : List Tree → List Activated → List Ref
leaf_values [] frames = []
leaf_values (a ∷ more) frames = value_or_nil (leaf_value a frames) ∷ leaf_values more frames

-- what becomes this tree with these arguments in the place of variables takes so many steps, in any frame whose variables have their values, leaves
-- all as it is, and has this value
abbrev pub FillsInside : Program → View → List Tree → ℕ → Tree → ℕ → Ref → Type 0
FillsInside p m trees home whole steps v = (a : Tree) → filled trees a ≡ Some whole → TakesInside p m (leaf_values trees m.calls.frames) home a steps v
