-- The tree of a node, by the numbers of its parts.
use Rattle.std.specs.Prelude.{◌≡◌, ℕ, ◌+◌, ◌<◌, ◌^◌, Bool, true, false, List, Some, slice_get}
use Rattle.std.proofs.Props.{props}
use Rattle.rr_tree.specs.Sets.{Tree-set}
use Rattle.rr_tree.specs.Nodes.{node_tree, trees_before}
use Rattle.rr_tree.specs.Tree.{Tree, sequence, array, hash, pairs, interpolation, call, send, super, yield, rescue, clause, multiple_assign, listed, tree_at}
use Rattle.rr_tree.specs.declared.node.Node.{Node}
use Rattle.rr_tree.specs.declared.node.Node.TheVariants as node

-- the tree of a node that is evaluated; nil stands for the items of a list past the table
abbrev pub evaluated_tree : List Node → Node → Tree
evaluated_tree ns (node.Sequence first count) = sequence (listed (trees_before ns (first + count) count))
evaluated_tree ns (node.Array first count) = array (listed (trees_before ns (first + count) count))
evaluated_tree ns (node.Hash first count) = hash (listed (trees_before ns (first + count) count))
evaluated_tree ns (node.Pairs first count) = pairs (listed (trees_before ns (first + count) count))
evaluated_tree ns (node.Interpolation first count) = interpolation (listed (trees_before ns (first + count) count))
evaluated_tree ns (node.Call x first count site) = call x.0 (listed (trees_before ns (first + count) count))
evaluated_tree ns (node.Send a x first count site) = send (tree_at ns a) x.0 (listed (trees_before ns (first + count) count))
evaluated_tree ns (node.Super first count) = super (listed (trees_before ns (first + count) count))
evaluated_tree ns (node.Yield first count) = yield (listed (trees_before ns (first + count) count))
evaluated_tree ns (node.Rescue a first count b) = rescue (tree_at ns a) (listed (trees_before ns (first + count) count)) (tree_at ns b)
evaluated_tree ns (node.Clause first count a b) = clause (listed (trees_before ns (first + count) count)) (tree_at ns a) (tree_at ns b)
evaluated_tree ns (node.MultipleAssign first count a) = multiple_assign (listed (trees_before ns (first + count) count)) (tree_at ns a)
evaluated_tree ns n = node_tree ns n

-- a node that is evaluated: no item of a list, and its own list, or its last part, ends at a number
abbrev pub IsEvaluated : Node → Type 0
IsEvaluated (node.Item a) = ⊥
IsEvaluated (node.Sequence first count) = first + count < 2 ^ 32
IsEvaluated (node.Array first count) = first + count < 2 ^ 32
IsEvaluated (node.Hash first count) = first + count < 2 ^ 32
IsEvaluated (node.Pairs first count) = first + count < 2 ^ 32
IsEvaluated (node.Interpolation first count) = first + count < 2 ^ 32
IsEvaluated (node.Call x first count site) = first + count < 2 ^ 32
IsEvaluated (node.Send a x first count site) = first + count < 2 ^ 32
IsEvaluated (node.Super first count) = first + count < 2 ^ 32
IsEvaluated (node.Yield first count) = first + count < 2 ^ 32
IsEvaluated (node.Rescue a first count b) = first + count < 2 ^ 32
IsEvaluated (node.Clause first count a b) = first + count < 2 ^ 32
IsEvaluated (node.MultipleAssign first count a) = first + count < 2 ^ 32
IsEvaluated (node.Index a b) = b + 1 < 2 ^ 32
IsEvaluated (node.Append a b) = b + 1 < 2 ^ 32
IsEvaluated (node.SetAttribute a x b site) = b + 1 < 2 ^ 32
IsEvaluated (node.SetIndex a b d) = d + 1 < 2 ^ 32
IsEvaluated _ = Unit {0}

pub IsEvaluated-prop : (n : Node) → IsProp (IsEvaluated n)
IsEvaluated-prop (node.Item a) = Prim.hlevel props
IsEvaluated-prop (node.Sequence first count) = Prim.hlevel props
IsEvaluated-prop (node.Array first count) = Prim.hlevel props
IsEvaluated-prop (node.Hash first count) = Prim.hlevel props
IsEvaluated-prop (node.Pairs first count) = Prim.hlevel props
IsEvaluated-prop (node.Interpolation first count) = Prim.hlevel props
IsEvaluated-prop (node.Call x first count site) = Prim.hlevel props
IsEvaluated-prop (node.Send a x first count site) = Prim.hlevel props
IsEvaluated-prop (node.Super first count) = Prim.hlevel props
IsEvaluated-prop (node.Yield first count) = Prim.hlevel props
IsEvaluated-prop (node.Rescue a first count b) = Prim.hlevel props
IsEvaluated-prop (node.Clause first count a b) = Prim.hlevel props
IsEvaluated-prop (node.MultipleAssign first count a) = Prim.hlevel props
IsEvaluated-prop (node.Index a b) = Prim.hlevel props
IsEvaluated-prop (node.Append a b) = Prim.hlevel props
IsEvaluated-prop (node.SetAttribute a x b site) = Prim.hlevel props
IsEvaluated-prop (node.SetIndex a b d) = Prim.hlevel props
IsEvaluated-prop _ = Prim.hlevel props

-- nodes that are evaluated, by the places at which they are
abbrev pub AreEvaluated : List Node → List Node → Type 0
AreEvaluated ns nodes = (x : ℕ) (n : Node) → slice_get nodes x ≡ Some n → (tree_at ns x ≡ evaluated_tree ns n) × IsEvaluated n

pub AreEvaluated-prop : (ns nodes : List Node) → IsProp (AreEvaluated ns nodes)
AreEvaluated-prop ns nodes = Prim.hlevel (props, Tree-set, IsEvaluated-prop)

-- a node whose evaluation needs the objects, the program's names or memory
abbrev pub IsRareNode : Node → Type 0
IsRareNode (node.Text i) = Unit {0}
IsRareNode (node.Array first count) = Unit {0}
IsRareNode (node.Hash first count) = Unit {0}
IsRareNode (node.Pairs first count) = Unit {0}
IsRareNode (node.Interpolation first count) = Unit {0}
IsRareNode (node.Field x) = Unit {0}
IsRareNode (node.Global x) = Unit {0}
IsRareNode (node.Constant path) = Unit {0}
IsRareNode (node.OrAssign a b) = Unit {0}
IsRareNode (node.Bare x site) = Unit {0}
IsRareNode (node.Call x first count site) = Unit {0}
IsRareNode (node.WithBlock a b) = Unit {0}
IsRareNode (node.Super first count) = Unit {0}
IsRareNode node.ForwardingSuper = Unit {0}
IsRareNode (node.Yield first count) = Unit {0}
IsRareNode _ = ⊥

-- a node that has a value at once
abbrev pub IsValueNode : Node → Type 0
IsValueNode node.Nil = Unit {0}
IsValueNode (node.Truth b) = Unit {0}
IsValueNode (node.Int z) = Unit {0}
IsValueNode (node.Symbol x) = Unit {0}
IsValueNode (node.Class k) = Unit {0}
IsValueNode (node.Local depth slot x behind) = Unit {0}
IsValueNode node.Itself = Unit {0}
IsValueNode _ = ⊥

-- a node that evaluates one part first, which is no receiver
abbrev pub IsFirstNode : Node → Type 0
IsFirstNode (node.And a b) = Unit {0}
IsFirstNode (node.Or a b) = Unit {0}
IsFirstNode (node.Not a) = Unit {0}
IsFirstNode (node.Negate a) = Unit {0}
IsFirstNode (node.Binary o a b) = Unit {0}
IsFirstNode (node.Choose a b d) = Unit {0}
IsFirstNode (node.Assign depth slot x behind a) = Unit {0}
IsFirstNode (node.SetField x a) = Unit {0}
IsFirstNode (node.Loop until a b) = Unit {0}
IsFirstNode (node.Break a) = Unit {0}
IsFirstNode (node.Next a) = Unit {0}
IsFirstNode (node.Return a) = Unit {0}
IsFirstNode (node.Rescue a first count b) = Unit {0}
IsFirstNode (node.Ensure a b) = Unit {0}
IsFirstNode _ = ⊥

-- a call of a receiver
abbrev pub IsSendNode : Node → Type 0
IsSendNode (node.Send a x first count site) = Unit {0}
IsSendNode (node.Index a b) = Unit {0}
IsSendNode (node.Append a b) = Unit {0}
IsSendNode (node.SetAttribute a x b site) = Unit {0}
IsSendNode (node.SetIndex a b d) = Unit {0}
IsSendNode _ = ⊥

-- an assignment to several targets, to a global or a constant, or with an operator
abbrev pub IsAssignNode : Node → Type 0
IsAssignNode (node.MultipleAssign first count a) = Unit {0}
IsAssignNode (node.SetGlobal x a) = Unit {0}
IsAssignNode (node.SetConstant x a) = Unit {0}
IsAssignNode (node.OperatorAssign o a b) = Unit {0}
IsAssignNode (node.AppendAssign a b) = Unit {0}
IsAssignNode (node.AndAssign a b) = Unit {0}
IsAssignNode _ = ⊥

-- a node that is not evaluated yet
abbrev pub is_unknown : Node → Bool
is_unknown node.Nil = false
is_unknown (node.Truth b) = false
is_unknown (node.Int z) = false
is_unknown (node.Text i) = false
is_unknown (node.Symbol x) = false
is_unknown (node.Class k) = false
is_unknown (node.Constant path) = false
is_unknown (node.Array first count) = false
is_unknown (node.Splat a) = false
is_unknown (node.Hash first count) = false
is_unknown (node.Pairs first count) = false
is_unknown (node.Interpolation first count) = false
is_unknown (node.Local depth slot x behind) = false
is_unknown node.Itself = false
is_unknown (node.Field x) = false
is_unknown (node.SetField x a) = false
is_unknown (node.Global x) = false
is_unknown (node.SetGlobal x a) = false
is_unknown (node.SetConstant x a) = false
is_unknown (node.Bare x site) = false
is_unknown (node.Call x first count site) = false
is_unknown (node.Send a x first count site) = false
is_unknown (node.WithBlock a b) = false
is_unknown (node.Block scope parameters size a) = false
is_unknown (node.Super first count) = false
is_unknown node.ForwardingSuper = false
is_unknown (node.Yield first count) = false
is_unknown (node.Index a b) = false
is_unknown (node.Append a b) = false
is_unknown (node.SetAttribute a x b site) = false
is_unknown (node.SetIndex a b d) = false
is_unknown (node.And a b) = false
is_unknown (node.Or a b) = false
is_unknown (node.Not a) = false
is_unknown (node.Negate a) = false
is_unknown (node.Binary o a b) = false
is_unknown (node.Assign depth slot x behind a) = false
is_unknown (node.MultipleAssign first count a) = false
is_unknown (node.OperatorAssign o a b) = false
is_unknown (node.AppendAssign a b) = false
is_unknown (node.OrAssign a b) = false
is_unknown (node.AndAssign a b) = false
is_unknown (node.Choose a b d) = false
is_unknown (node.Loop until a b) = false
is_unknown (node.Sequence first count) = false
is_unknown (node.Item a) = false
is_unknown (node.Break a) = false
is_unknown (node.Next a) = false
is_unknown (node.Return a) = false
is_unknown (node.Rescue a first count b) = false
is_unknown (node.Ensure a b) = false
is_unknown _ = true
