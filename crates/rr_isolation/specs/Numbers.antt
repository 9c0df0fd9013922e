-- The numbers of a node's parts, and the places of a search that they give.
use Rattle.std.specs.Prelude.{◌≡◌, ℕ, ◌+◌, ◌<◌, ◌≤◌, List, ◌++◌, length, map, All, option_to_list}
use Rattle.std.specs.List.{range_with_len}
use Rattle.rr_tree.specs.Tree.{tree_at, HasPartsBefore}
use Rattle.rr_tree.specs.Nodes.{node_tree}
use Rattle.rr_tree.specs.declared.node.Node.{Node}
use Rattle.rr_tree.specs.declared.node.Node.TheVariants as node
use Rattle.rr_isolation.specs.Parts.{parts}
use Rattle.rr_isolation.specs.declared.parts.PartNumbers.{PartNumbers}
use Rattle.rr_isolation.specs.declared.search.Spot.{Spot}

-- those that stand alone, and those of the list
abbrev pub numbers : PartNumbers → List ℕ
numbers p = option_to_list p.one ++ (option_to_list p.two ++ (option_to_list p.three ++ range_with_len p.first p.count))

-- nodes with so many blocks round them
abbrev pub spots : ℕ → List ℕ → List Spot
spots blocks nodes = map (λ n. record { node = n; blocks = blocks }) nodes

-- these are the parts of a node, wherever a table has them before it
pub record ArePartsOf (n : Node) (p : PartNumbers) : Type 0 where
  pub trees : (ns : List Node) (i : ℕ) → HasPartsBefore i n → i ≤ length ns → map (tree_at ns) (numbers p) ≡ parts (node_tree ns n)
  pub before : (i : ℕ) → HasPartsBefore i n → All (λ k. k < i) (numbers p)
  pub list_before : (i : ℕ) → HasPartsBefore i n → p.first + p.count ≤ i

-- a node some of whose parts are a list
abbrev pub HasList : Node → Type 0
HasList (node.Array first count) = Unit {0}
HasList (node.Hash first count) = Unit {0}
HasList (node.Pairs first count) = Unit {0}
HasList (node.Interpolation first count) = Unit {0}
HasList (node.Sequence first count) = Unit {0}
HasList (node.Call x first count site) = Unit {0}
HasList (node.Send a x first count site) = Unit {0}
HasList (node.Super first count) = Unit {0}
HasList (node.Yield first count) = Unit {0}
HasList (node.Rescue a first count b) = Unit {0}
HasList (node.Clause first count a b) = Unit {0}
HasList (node.MultipleAssign first count a) = Unit {0}
HasList _ = ⊥

-- a node with two parts or three, or with a list
abbrev pub HasSeveral : Node → Type 0
HasSeveral (node.And a b) = Unit {0}
HasSeveral (node.Or a b) = Unit {0}
HasSeveral (node.Binary o a b) = Unit {0}
HasSeveral (node.Append a b) = Unit {0}
HasSeveral (node.Choose a b d) = Unit {0}
HasSeveral (node.Loop until a b) = Unit {0}
HasSeveral (node.WithBlock a b) = Unit {0}
HasSeveral (node.Ensure a b) = Unit {0}
HasSeveral (node.OperatorAssign o a b) = Unit {0}
HasSeveral (node.AppendAssign a b) = Unit {0}
HasSeveral (node.OrAssign a b) = Unit {0}
HasSeveral (node.AndAssign a b) = Unit {0}
HasSeveral (node.Index a b) = Unit {0}
HasSeveral (node.SetIndex a b d) = Unit {0}
HasSeveral (node.SetAttribute a x b site) = Unit {0}
HasSeveral (node.Pair a b) = Unit {0}
HasSeveral n = HasList n
