-- Methods that begin with a choice that may end them.
use Rattle.std.specs.Prelude.{◌≡◌, ◌≤◌, ℕ, suc, List, Bool, true, false, Option, None, Some, slice_get}
use Rattle.std.proofs.Props.{props}
use Rattle.rr_tree.specs.Sets.{Tree-set}
use Rattle.rr_tree.specs.Tree.{Tree, nil, choose, return, sequence, empty, then_one, tree_at}
use Rattle.rr_tree.specs.declared.node.Node.{Node}
use Rattle.rr_eval.specs.declared.base_cases.BaseCase.{BaseCase}
use Rattle.rr_eval.specs.declared.simple_parts.SimplePart.{SimplePart}
use Rattle.rr_eval.specs.declared.simple_parts.SimplePart.TheVariants.{WithInt}
use Rattle.rr_eval.specs.SimpleParts.{simple_of}

-- How a part of a choice ends what is around it: whether its value is returned, the tree of the value, and the steps beside those of it, with that
-- of the choice.
abbrev pub ending_of : Tree → Bool × (Tree × ℕ)
ending_of (return a) = (true, (a, 2))
ending_of a = (false, (a, 1))

-- a list of one is a step more
abbrev pub listed_ending_of : Tree → Bool × (Tree × ℕ)
listed_ending_of (sequence (then_one empty a)) = ((ending_of a).0, ((ending_of a).1.0, suc (ending_of a).1.1))
listed_ending_of a = ending_of a

-- the condition of a choice, as far as integers and variables go, how its first part ends what is around it, and its other part
abbrev pub base_of : Tree → Option (SimplePart × ((Bool × (Tree × ℕ)) × Tree))
base_of (choose condition part other) = Some (simple_of condition, (listed_ending_of part, other))
base_of _ = None

-- the tree at a place, or nil
abbrev pub part_of : List Node → Option ℕ → Tree
part_of ns None = nil
part_of ns (Some n) = tree_at ns n

-- what is known beforehand of such a choice is so
abbrev pub IsBase : List Node → BaseCase → Type 0
IsBase ns b = (base_of (tree_at ns b.place) ≡ Some (WithInt b.op (record { depth = 0; slot = b.parameter }) b.integer, ((b.returns, (tree_at ns b.value, b.steps)), part_of ns b.otherwise))) × (b.steps ≤ 3)

abbrev pub AreBases : List Node → List (Option BaseCase) → Type 0
AreBases ns bases = (x : ℕ) (b : BaseCase) → slice_get bases x ≡ Some (Some b) → IsBase ns b

pub AreBases-prop : (ns : List Node) (bases : List (Option BaseCase)) → IsProp (AreBases ns bases)
AreBases-prop ns bases = Prim.hlevel (props, Tree-set)
