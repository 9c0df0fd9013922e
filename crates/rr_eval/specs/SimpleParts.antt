-- Parts that are evaluated without a frame, by what stands in the program.
use Rattle.std.specs.Prelude.{◌≡◌, ◌+◌, ◌<◌, ◌≤◌, ℕ, zero, suc, Bool, true, false, List, [], ◌∷◌, length, take, drop, Option, None, Some, if◌then◌else◌, slice_get, slice_index_or}
use Rattle.std.specs.Option.{option_map}
use Rattle.std.proofs.Props.{props}
use Rattle.rr_base.specs.ClassNames.{class_named as built_in_named}
use Rattle.rr_tree.specs.Tree.{Tree, nil, truth, int, symbol, itself, class_named, constant, local, field, global, send, call, sequence, empty, then_one, binary, tree_at}
use Rattle.rr_tree.specs.declared.node.BinaryOperator.{BinaryOperator}
use Rattle.rr_tree.specs.declared.node.Path.TheVariants.{Plain}
use Rattle.rr_tree.specs.declared.program.Program.{Program}
use Rattle.rr_tree.specs.Sets.{Tree-set}
use Rattle.rr_space.specs.Parts.{truth_ref}
use Rattle.rr_space.specs.declared.refer.Ref.{Ref}
use Rattle.rr_space.specs.declared.refer.Ref.TheVariants.{Nil, Symbol, Class}
use Rattle.rr_eval.specs.Basics.{items}
use Rattle.rr_eval.specs.Constants.{own_class}
use Rattle.rr_eval.specs.Turns.{context_of}
use Rattle.rr_eval.specs.declared.chains.Chain.{Chain}
use Rattle.rr_eval.specs.declared.chains.Link.{Link}
use Rattle.rr_eval.specs.declared.call_stack.Variable.{Variable as Local}
use Rattle.rr_eval.specs.declared.simple_parts.ApartPart.{ApartPart}
use Rattle.rr_eval.specs.declared.simple_parts.ApartPart.TheVariants as apart
use Rattle.rr_eval.specs.declared.simple_parts.SimplePart.{SimplePart}
use Rattle.rr_eval.specs.declared.simple_parts.SimplePart.TheVariants.{Variable, Int, WithInt, WithVariable, Value, Itself, Apart, Other}

-- an operand that is an integer or a variable
abbrev pub operand_of : Tree → SimplePart
operand_of (int z) = Int z
operand_of (local depth slot x behind) = Variable (record { depth = depth; slot = slot })
operand_of _ = Other

-- an operator on a variable and another operand
abbrev pub operation_of : BinaryOperator → SimplePart → SimplePart → SimplePart
operation_of op (Variable v) (Int z) = WithInt op v z
operation_of op (Variable v) (Variable w) = WithVariable op v w
operation_of op _ _ = Other

-- what a part is, as far as integers and variables go
abbrev pub simple_of : Tree → SimplePart
simple_of (int z) = Int z
simple_of (local depth slot x behind) = Variable (record { depth = depth; slot = slot })
simple_of (binary op a b) = operation_of op (operand_of a) (operand_of b)
simple_of _ = Other

-- the value that a part has in a program whatever runs: a literal, or a class of the program
abbrev pub literal_of : Program → Tree → Option Ref
literal_of p nil = Some Nil
literal_of p (truth b) = Some (truth_ref b)
literal_of p (symbol x) = Some (Symbol (record { 0 = x }))
literal_of p (class_named k) = Some (Class k)
literal_of p (constant (Plain x)) = option_map Class (own_class p x.0)
literal_of p _ = None

-- operators one after the other, the first of them on this tree, each other one on what those before it give, and the trees at their places
abbrev pub linked : Program → Tree → List Link → Tree
linked p tree [] = tree
linked p tree (l ∷ ls) = linked p (binary l.op tree (tree_at p.nodes.items l.right)) ls

-- the links of a chain, among those of all chains
abbrev pub links_of : List Link → Chain → List Link
links_of links chain = take chain.count (drop chain.from links)

-- a chain lies among the links, and ends with this tree
abbrev pub IsLinked : Program → List Link → Chain → Tree → Type 0
IsLinked p links chain tree = (chain.from + chain.count ≤ length links) × (linked p (tree_at p.nodes.items chain.first) (links_of links chain) ≡ tree)

-- the most links of a chain: what is done at once has few steps
abbrev pub longest : ℕ
longest = 7

-- a chain has links, no more than that, and does so
abbrev pub IsChain : Program → List Link → Chain → Tree → Type 0
IsChain p links chain tree = (0 < chain.count) × IsLinked p links chain tree × (chain.count ≤ longest)

-- the variable, and the name, of a call without arguments of what a variable holds
abbrev pub named_operand : SimplePart → ℕ → Option (Local × ℕ)
named_operand (Variable v) x = Some (v, x)
named_operand _ x = None

abbrev pub attribute_in : Tree → Option (Local × ℕ)
attribute_in (send a x empty) = named_operand (operand_of a) x
attribute_in _ = None

-- whether trees are leaves: integers, or local variables
abbrev pub is_leaf : Tree → Bool
is_leaf (int z) = true
is_leaf (local depth slot x behind) = true
is_leaf _ = false

abbrev pub are_leaves : List Tree → Bool
are_leaves [] = true
are_leaves (a ∷ more) = if is_leaf a then are_leaves more else false

-- the tree that stands for a variable of a frame, where it is one of its own
abbrev pub argument_of : List Tree → ℕ → ℕ → Option Tree
argument_of trees zero slot = slice_get trees slot
argument_of trees (suc depth) slot = None

abbrev pub operator_on : BinaryOperator → Option Tree → Option Tree → Option Tree
operator_on op (Some a) (Some b) = Some (binary op a b)
operator_on op _ _ = None

-- operators on integers and on the variables of a frame, with these trees in the place of the variables
abbrev pub filled : List Tree → Tree → Option Tree
filled trees (int z) = Some (int z)
filled trees (local depth slot x behind) = argument_of trees depth slot
filled trees (binary op a b) = operator_on op (filled trees a) (filled trees b)
filled trees _ = None

-- the tree of a list of one, with these in the place of its variables
abbrev pub filled_list : List Tree → Tree → Option Tree
filled_list trees (sequence (then_one empty a)) = filled trees a
filled_list trees _ = None

-- the most arguments, and links, of a call that is a chain
abbrev pub most : ℕ
most = 4

-- A call on `self` with leaves as its arguments, to a method with these statements, is a chain: they are one, and the chain is that with the
-- arguments in the place of its variables.
abbrev pub IsFilled : Program → List Link → Chain → Tree → Tree → Type 0
IsFilled p links chain body (call x list) =
    (chain.from + chain.count ≤ length links) × (chain.count ≤ most) × (length (items list) ≤ most) × (are_leaves (items list) ≡ true)
    × (filled_list (items list) body ≡ Some (linked p (tree_at p.nodes.items chain.first) (links_of links chain)))
IsFilled p links chain body _ = ⊥

pub IsFilled-prop : (p : Program) (links : List Link) (chain : Chain) (body tree : Tree) → IsProp (IsFilled p links chain body tree)
IsFilled-prop p links chain body (call x list) = Prim.hlevel (props, Tree-set)
IsFilled-prop p links chain body _ = Prim.hlevel props

-- a part for which a function of its own is called is what it is taken for: a chain, a variable, an attribute, a call that is a chain, or a
-- constant that is no class of the program, beside the built-in class of its name
abbrev pub IsApart : Program → List Link → Tree → ApartPart → Type 0
IsApart p links tree (apart.Chain chain) = IsChain p links chain tree
IsApart p links tree (apart.Field x) = tree ≡ field x.0
IsApart p links tree (apart.Attribute v x) = attribute_in tree ≡ Some (v, x.0)
IsApart p links tree (apart.Call chain body) = IsFilled p links chain (tree_at p.nodes.items body) tree
IsApart p links tree (apart.Global x) = tree ≡ global x.0
IsApart p links tree (apart.Constant x class) = (tree ≡ constant (Plain x)) × (own_class p x.0 ≡ None) × (class ≡ built_in_named (slice_index_or (context_of p).symbols x.0 []))

pub IsApart-prop : (p : Program) (links : List Link) (tree : Tree) (a : ApartPart) → IsProp (IsApart p links tree a)
IsApart-prop p links tree (apart.Chain chain) = Prim.hlevel (props, Tree-set)
IsApart-prop p links tree (apart.Field x) = Prim.hlevel (props, Tree-set)
IsApart-prop p links tree (apart.Attribute v x) = Prim.hlevel props
IsApart-prop p links tree (apart.Call chain body) = IsFilled-prop p links chain (tree_at p.nodes.items body) tree
IsApart-prop p links tree (apart.Global x) = Prim.hlevel (props, Tree-set)
IsApart-prop p links tree (apart.Constant x class) = Prim.hlevel (props, Tree-set)

-- what a part is taken for is what it is
abbrev pub IsSimple : Program → List Link → Tree → SimplePart → Type 0
IsSimple p links tree (Value v) = literal_of p tree ≡ Some v
IsSimple p links tree Itself = tree ≡ itself
IsSimple p links tree (Apart a) = IsApart p links tree a
IsSimple p links tree s = s ≡ simple_of tree

pub IsSimple-prop : (p : Program) (links : List Link) (tree : Tree) (s : SimplePart) → IsProp (IsSimple p links tree s)
IsSimple-prop p links tree (Apart a) = IsApart-prop p links tree a
IsSimple-prop p links tree (Value v) = Prim.hlevel props
IsSimple-prop p links tree Itself = Prim.hlevel (props, Tree-set)
IsSimple-prop p links tree (Variable v) = Prim.hlevel props
IsSimple-prop p links tree (Int z) = Prim.hlevel props
IsSimple-prop p links tree (WithInt op v z) = Prim.hlevel props
IsSimple-prop p links tree (WithVariable op v w) = Prim.hlevel props
IsSimple-prop p links tree Other = Prim.hlevel props

-- parts by their places
abbrev pub AreSimple : Program → List Link → List SimplePart → Type 0
AreSimple p links parts = (x : ℕ) (s : SimplePart) → slice_get parts x ≡ Some s → IsSimple p links (tree_at p.nodes.items x) s

pub AreSimple-prop : (p : Program) (links : List Link) (parts : List SimplePart) → IsProp (AreSimple p links parts)
AreSimple-prop p links parts = Prim.hlevel (props, IsSimple-prop)
