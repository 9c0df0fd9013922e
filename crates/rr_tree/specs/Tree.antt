-- Trees, and the tree that a node of a table stands for.
use Rattle.std.specs.Prelude.{◌<◌, ◌≤◌, ◌+◌, ℕ, ℤ, Bool, List, [], ◌∷◌, ◌++◌, length, get_or, take, drop}
use Rattle.rr_base.specs.declared.name.ClassId.{ClassId}
use Rattle.rr_tree.specs.declared.node.BinaryOperator.{BinaryOperator}
use Rattle.rr_tree.specs.declared.node.Path.{Path}
use Rattle.rr_tree.specs.declared.node.Node.{Node}
use Rattle.rr_tree.specs.declared.node.Node.TheVariants as node

-- Names and texts are by number, in the order in which the source first has them. A variable is how many scopes outside it is,
-- its number among the variables there, its name, and how many words of the source stand behind this use. A block and a method
-- are the number of their scope, how many parameters and how many variables they have, and their statements.
mutual
  pub data Tree : Type 0 where
    nil : Tree
    truth : Bool → Tree
    int : ℤ → Tree
    text : ℕ → Tree
    symbol : ℕ → Tree
    itself : Tree
    class_named : ClassId → Tree
    constant : Path → Tree
    set_constant : ℕ → Tree → Tree
    local : ℕ → ℕ → ℕ → ℕ → Tree
    assign : ℕ → ℕ → ℕ → ℕ → Tree → Tree
    field : ℕ → Tree
    set_field : ℕ → Tree → Tree
    global : ℕ → Tree
    set_global : ℕ → Tree → Tree
    array : Trees → Tree
    hash : Trees → Tree
    pairs : Trees → Tree
    interpolation : Trees → Tree
    logical_and : Tree → Tree → Tree
    logical_or : Tree → Tree → Tree
    logical_not : Tree → Tree
    negate : Tree → Tree
    binary : BinaryOperator → Tree → Tree → Tree
    append : Tree → Tree → Tree
    choose : Tree → Tree → Tree → Tree
    repeat : Bool → Tree → Tree → Tree
    sequence : Trees → Tree
    bare : ℕ → Tree
    call : ℕ → Trees → Tree
    send : Tree → ℕ → Trees → Tree
    with_block : Tree → Tree → Tree
    block : ℕ → ℕ → ℕ → Tree → Tree
    super : Trees → Tree
    forwarding_super : Tree
    yield : Trees → Tree
    break : Tree → Tree
    next : Tree → Tree
    return : Tree → Tree
    rescue : Tree → Trees → Tree → Tree
    clause : Trees → Tree → Tree → Tree
    ensure : Tree → Tree → Tree
    operator_assign : BinaryOperator → Tree → Tree → Tree
    append_assign : Tree → Tree → Tree
    or_assign : Tree → Tree → Tree
    and_assign : Tree → Tree → Tree
    index : Tree → Tree → Tree
    set_index : Tree → Tree → Tree → Tree
    set_attribute : Tree → ℕ → Tree → Tree
    multiple_assign : Trees → Tree → Tree
    splat : Tree → Tree
    pair : Tree → Tree → Tree
    method : ℕ → ℕ → ℕ → ℕ → Tree → Tree
    reader : ℕ → Tree
    writer : ℕ → Tree
    class_body : ℕ → ClassId → Trees → Tree

  -- a list of trees: none, or a list and one more at its end
  pub data Trees : Type 0 where
    empty : Trees
    then_one : Trees → Tree → Trees

-- a list of trees behind others
abbrev pub listed_after : Trees → List Tree → Trees
listed_after l [] = l
listed_after l (t ∷ ts) = listed_after (then_one l t) ts

abbrev pub listed : List Tree → Trees
listed ts = listed_after empty ts

-- the tree of a node, from the trees of its parts by their numbers and from those of its list
abbrev pub tree_with : (ℕ → Tree) → (ℕ → ℕ → List Tree) → Node → Tree
tree_with at list node.Nil = nil
tree_with at list (node.Truth b) = truth b
tree_with at list (node.Int z) = int z
tree_with at list (node.Text k) = text k
tree_with at list (node.Symbol x) = symbol x.0
tree_with at list node.Itself = itself
tree_with at list (node.Class c) = class_named c
tree_with at list (node.Constant path) = constant path
tree_with at list (node.SetConstant x a) = set_constant x.0 (at a)
tree_with at list (node.Local depth slot x behind) = local depth slot x.0 behind
tree_with at list (node.Assign depth slot x behind a) = assign depth slot x.0 behind (at a)
tree_with at list (node.Field x) = field x.0
tree_with at list (node.SetField x a) = set_field x.0 (at a)
tree_with at list (node.Global x) = global x.0
tree_with at list (node.SetGlobal x a) = set_global x.0 (at a)
tree_with at list (node.Array first count) = array (listed (list first count))
tree_with at list (node.Hash first count) = hash (listed (list first count))
tree_with at list (node.Pairs first count) = pairs (listed (list first count))
tree_with at list (node.Interpolation first count) = interpolation (listed (list first count))
tree_with at list (node.And a b) = logical_and (at a) (at b)
tree_with at list (node.Or a b) = logical_or (at a) (at b)
tree_with at list (node.Not a) = logical_not (at a)
tree_with at list (node.Negate a) = negate (at a)
tree_with at list (node.Binary o a b) = binary o (at a) (at b)
tree_with at list (node.Append a b) = append (at a) (at b)
tree_with at list (node.Choose a b d) = choose (at a) (at b) (at d)
tree_with at list (node.Loop until a b) = repeat until (at a) (at b)
tree_with at list (node.Sequence first count) = sequence (listed (list first count))
tree_with at list (node.Bare x site) = bare x.0
tree_with at list (node.Call x first count site) = call x.0 (listed (list first count))
tree_with at list (node.Send a x first count site) = send (at a) x.0 (listed (list first count))
tree_with at list (node.WithBlock a b) = with_block (at a) (at b)
tree_with at list (node.Block scope parameters size a) = block scope parameters size (at a)
tree_with at list (node.Super first count) = super (listed (list first count))
tree_with at list node.ForwardingSuper = forwarding_super
tree_with at list (node.Yield first count) = yield (listed (list first count))
tree_with at list (node.Break a) = break (at a)
tree_with at list (node.Next a) = next (at a)
tree_with at list (node.Return a) = return (at a)
tree_with at list (node.Rescue a first count b) = rescue (at a) (listed (list first count)) (at b)
tree_with at list (node.Clause first count a b) = clause (listed (list first count)) (at a) (at b)
tree_with at list (node.Ensure a b) = ensure (at a) (at b)
tree_with at list (node.OperatorAssign o a b) = operator_assign o (at a) (at b)
tree_with at list (node.AppendAssign a b) = append_assign (at a) (at b)
tree_with at list (node.OrAssign a b) = or_assign (at a) (at b)
tree_with at list (node.AndAssign a b) = and_assign (at a) (at b)
tree_with at list (node.Index a b) = index (at a) (at b)
tree_with at list (node.SetIndex a b d) = set_index (at a) (at b) (at d)
tree_with at list (node.SetAttribute a x b site) = set_attribute (at a) x.0 (at b)
tree_with at list (node.MultipleAssign first count a) = multiple_assign (listed (list first count)) (at a)
tree_with at list (node.Splat a) = splat (at a)
tree_with at list (node.Pair a b) = pair (at a) (at b)
tree_with at list (node.Method x scope parameters size a) = method x.0 scope parameters size (at a)
tree_with at list (node.Reader x) = reader x.0
tree_with at list (node.Writer x) = writer x.0
tree_with at list (node.ClassBody x superclass first count) = class_body x.0 superclass (listed (list first count))
tree_with at list (node.Item a) = at a

-- the tree of a node, whose parts are among the trees before it
unfoldable pub tree_of : List Tree → Node → Tree
tree_of ts n = tree_with (λ a. get_or ts a nil) (λ first count. take count (drop first ts)) n

-- the trees of nodes, after those of the nodes before them
unfoldable pub trees_after : List Tree → List Node → List Tree
trees_after ts [] = ts
trees_after ts (n ∷ ns) = trees_after (ts ++ tree_of ts n ∷ []) ns

-- the tree of the node with a number; a number outside the table stands for nil
unfoldable pub tree_at : List Node → ℕ → Tree
tree_at ns i = get_or (trees_after [] ns) i nil

-- the parts of a node stand before this number, and so do the items of its list
abbrev pub HasPartsBefore : ℕ → Node → Type 0
HasPartsBefore i (node.SetConstant x a) = a < i
HasPartsBefore i (node.Assign depth slot x behind a) = a < i
HasPartsBefore i (node.SetField x a) = a < i
HasPartsBefore i (node.SetGlobal x a) = a < i
HasPartsBefore i (node.Array first count) = first + count ≤ i
HasPartsBefore i (node.Hash first count) = first + count ≤ i
HasPartsBefore i (node.Pairs first count) = first + count ≤ i
HasPartsBefore i (node.Interpolation first count) = first + count ≤ i
HasPartsBefore i (node.And a b) = (a < i) × (b < i)
HasPartsBefore i (node.Or a b) = (a < i) × (b < i)
HasPartsBefore i (node.Not a) = a < i
HasPartsBefore i (node.Negate a) = a < i
HasPartsBefore i (node.Binary o a b) = (a < i) × (b < i)
HasPartsBefore i (node.Append a b) = (a < i) × (b < i)
HasPartsBefore i (node.Choose a b d) = (a < i) × (b < i) × (d < i)
HasPartsBefore i (node.Loop until a b) = (a < i) × (b < i)
HasPartsBefore i (node.Sequence first count) = first + count ≤ i
HasPartsBefore i (node.Call x first count site) = first + count ≤ i
HasPartsBefore i (node.Send a x first count site) = (a < i) × (first + count ≤ i)
HasPartsBefore i (node.WithBlock a b) = (a < i) × (b < i)
HasPartsBefore i (node.Block scope parameters size a) = a < i
HasPartsBefore i (node.Super first count) = first + count ≤ i
HasPartsBefore i (node.Yield first count) = first + count ≤ i
HasPartsBefore i (node.Break a) = a < i
HasPartsBefore i (node.Next a) = a < i
HasPartsBefore i (node.Return a) = a < i
HasPartsBefore i (node.Rescue a first count b) = (a < i) × (first + count ≤ i) × (b < i)
HasPartsBefore i (node.Clause first count a b) = (first + count ≤ i) × (a < i) × (b < i)
HasPartsBefore i (node.Ensure a b) = (a < i) × (b < i)
HasPartsBefore i (node.OperatorAssign o a b) = (a < i) × (b < i)
HasPartsBefore i (node.AppendAssign a b) = (a < i) × (b < i)
HasPartsBefore i (node.OrAssign a b) = (a < i) × (b < i)
HasPartsBefore i (node.AndAssign a b) = (a < i) × (b < i)
HasPartsBefore i (node.Index a b) = (a < i) × (b < i)
HasPartsBefore i (node.SetIndex a b d) = (a < i) × (b < i) × (d < i)
HasPartsBefore i (node.SetAttribute a x b site) = (a < i) × (b < i)
HasPartsBefore i (node.MultipleAssign first count a) = (first + count ≤ i) × (a < i)
HasPartsBefore i (node.Splat a) = a < i
HasPartsBefore i (node.Pair a b) = (a < i) × (b < i)
HasPartsBefore i (node.Method x scope parameters size a) = a < i
HasPartsBefore i (node.ClassBody x superclass first count) = first + count ≤ i
HasPartsBefore i (node.Item a) = a < i
HasPartsBefore i _ = Unit {0}

-- each node stands after its parts
abbrev pub IsOrdered : List Node → Type 0
IsOrdered ns = (i : ℕ) → i < length ns → HasPartsBefore i (get_or ns i node.Nil)
