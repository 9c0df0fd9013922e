-- Methods and blocks that are done without their frame.
use Rattle.std.specs.Prelude.{◌≡◌, ◌+◌, ◌∷◌, ◌++◌, [], ℕ, List, Some, None, slice_get, length}
use Rattle.rr_frames.specs.Frames.{Frame as Activated, Stack}
use Rattle.rr_space.specs.Tables.{Table}
use Rattle.rr_space.specs.declared.refer.Ref.{Ref}
use Rattle.rr_tree.specs.Nodes.{trees_before}
use Rattle.rr_tree.specs.Tree.{Tree, block, sequence, listed, tree_at}
use Rattle.rr_tree.specs.declared.node.Node.{Node}
use Rattle.rr_tree.specs.declared.program.Program.{Program}
use Rattle.rr_eval.specs.StraightRounds.{SetsNow, SetFirst}
use Rattle.rr_eval.specs.Usual.{TakesNow}
use Rattle.rr_eval.specs.View.{View}

-- a frame runs over those of a view, whose method is given no block
abbrev pub framed_with : Activated → View → View
framed_with f m = record m { calls = record m.calls { frames = m.calls.frames ++ f ∷ [] }; blocks = m.blocks ++ None ∷ [] }

-- a frame has these values in its first variables, and lies in the one with the number
pub record LiesIn (values : List Ref) (home : ℕ) (f : Activated) : Type 0 where
  pub variables : (slot : ℕ) (v : Ref) → slice_get values slot ≡ Some v → slice_get f.variables slot ≡ Some v
  pub lies : f.activation.home ≡ home

-- a tree takes so many steps in any such frame, leaves all as it is, and has this value
abbrev pub TakesInside : Program → View → List Ref → ℕ → Tree → ℕ → Ref → Type 0
TakesInside p m values home tree steps v = (f : Activated) (t : Table) → LiesIn values home f → TakesNow p (framed_with f m) t tree steps v

-- a tree takes so many steps in any such frame, changes variables of the frames below it to those that another view has, and nothing else, and
-- has this value
abbrev pub SetsInside : Program → View → List Ref → ℕ → Tree → ℕ → Ref → View → Type 0
SetsInside p m values home tree steps v n = (f : Activated) (t : Table) → LiesIn values home f → SetsNow p (framed_with f m) t tree steps v (framed_with f n)

-- the first of some statements, all but these, do so
abbrev pub SetFirstInside : Program → View → List Ref → ℕ → ℕ → ℕ → ℕ → ℕ → Ref → View → Type 0
SetFirstInside p m values home end count rest steps v n = (f : Activated) (t : Table) → LiesIn values home f → SetFirst p (framed_with f m) t end count rest steps v (framed_with f n)

-- a block stands at a place, and has these statements
abbrev pub HasStatements : List Node → ℕ → ℕ → ℕ → Type 0
HasStatements ns place first count = (x : ℕ) × (parameters : ℕ) × (size : ℕ) × (list : Tree) × (tree_at ns place ≡ block x parameters size list) × (list ≡ sequence (listed (trees_before ns (first + count) count)))

-- there are as many frames as before, and there may be as many
pub record AsMany (old new : Stack) : Type 0 where
  pub frames : length new.frames ≡ length old.frames
  pub limit : new.limit ≡ old.limit
