-- Statements that assign the value of one part to a local variable.
use Rattle.std.specs.Prelude.{◌≡◌, ◌≤◌, ℕ, List, Option, None, Some, slice_get}
use Rattle.std.proofs.Props.{props}
use Rattle.rr_tree.specs.Sets.{Tree-set}
use Rattle.rr_tree.specs.Tree.{Tree, nil, assign, rescue, sequence, empty, then_one, tree_at}
use Rattle.rr_tree.specs.declared.node.Node.{Node}
use Rattle.rr_eval.specs.declared.call_stack.Variable.{Variable as Local}
use Rattle.rr_eval.specs.declared.straight.Straight.{Straight}

-- The variable that a statement assigns to, the tree of its value, and its steps beside those of the value. Statements that clauses rescue,
-- with nothing that follows where nothing is raised, are one step more, and so is a list of one.
abbrev pub assigned_by : Tree → Option (Local × (Tree × ℕ))
assigned_by (assign depth slot x behind a) = Some (record { depth = depth; slot = slot }, (a, 1))
assigned_by (rescue (sequence (then_one empty (assign depth slot x behind a))) clauses nil) = Some (record { depth = depth; slot = slot }, (a, 3))
assigned_by _ = None

-- what is known beforehand of a statement is so
abbrev pub IsStraight : List Node → Straight → Type 0
IsStraight ns s = (assigned_by (tree_at ns s.place) ≡ Some (s.variable, (tree_at ns s.value, s.steps))) × (s.steps ≤ 3)

abbrev pub AreStraight : List Node → List Straight → Type 0
AreStraight ns statements = (x : ℕ) (s : Straight) → slice_get statements x ≡ Some s → IsStraight ns s

pub AreStraight-prop : (ns : List Node) (statements : List Straight) → IsProp (AreStraight ns statements)
AreStraight-prop ns statements = Prim.hlevel (props, Tree-set)
