-- Tables of nodes that grow.
use Rattle.std.specs.Prelude.{◌≡◌, ◌-◌, ℕ, zero, suc, List, [], ◌∷◌, ◌++◌, take, drop}
use Rattle.rr_tree.specs.declared.node.Node.{Node}
use Rattle.rr_tree.specs.declared.node.Node.TheVariants as node
use Rattle.rr_tree.specs.Tree.{Tree, tree_with, trees_after, tree_at}

-- new is old with more nodes at its end
abbrev pub Extends : List Node → List Node → Type 0
Extends old new = (more : List Node) × (new ≡ old ++ more)

-- the entry of a list for a part
abbrev pub item : ℕ → Node
item i = node.Item i

-- the trees of count nodes that stand side by side
unfoldable pub trees_in : List Node → ℕ → ℕ → List Tree
trees_in ns first count = take count (drop first (trees_after [] ns))

-- the tree of a node that is put behind others
abbrev pub node_tree : List Node → Node → Tree
node_tree ns n = tree_with (tree_at ns) (trees_in ns) n

-- the trees of the last `count` nodes before a place
abbrev pub trees_before : List Node → ℕ → ℕ → List Tree
trees_before ns end zero = []
trees_before ns end (suc more) = tree_at ns (end - suc more) ∷ trees_before ns end more

-- no item of a list
abbrev pub IsNoItem : Node → Type 0
IsNoItem (node.Item a) = ⊥
IsNoItem _ = Unit {0}
