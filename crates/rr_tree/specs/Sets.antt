-- Trees are a set: an equation of two has one proof at most. So has what says that a table is a program's.
use Rattle.std.specs.Prelude.{◌≡◌, ℕ, suc, List, [], ◌∷◌, ◌++◌, length, get_or, take}
use Rattle.std.proofs.Common.{refl, sym, ap, ◌∙◌, append_assoc}
use Rattle.std.proofs.Props.{props}
use Rattle.std.proofs.Math.Seq.{get_or-append_seam, take-append_seam}
use mathlib.Core.HLevel.{collapsible→set}
use Rattle.rr_base.specs.declared.name.Sym.{Sym}
use Rattle.rr_tree.specs.declared.method_table.MethodTable.{MethodTable}
use Rattle.rr_tree.specs.declared.node.Node.{Node}
use Rattle.rr_tree.specs.declared.node.Node.TheVariants as node
use Rattle.rr_tree.specs.declared.program.Program.{Program}
use Rattle.rr_tree.specs.Methods.{members, IsTableOf}
use Rattle.rr_tree.specs.Tree.{Tree, Trees, empty, then_one, listed, listed_after, tree_of, nil, truth, int, text, symbol, itself, class_named, constant, set_constant, local, assign, field, set_field, global, set_global, array, hash, pairs, interpolation, logical_and, logical_or, logical_not, negate, binary, append, choose, repeat, sequence, bare, call, send, with_block, block, super, forwarding_super, yield, break, next, return, rescue, clause, ensure, operator_assign, append_assign, or_assign, and_assign, index, set_index, set_attribute, multiple_assign, splat, pair, method, reader, writer, class_body}

-- a node, and what its numbers stand for
mutual
  data Rose : Type 0 where
    rose : Node → Roses → Rose
    deriving IsSet as Rose-set

  data Roses : Type 0 where
    none : Roses
    more : Rose → Roses → Roses
    deriving IsSet as Roses-set

abbrev name_at : ℕ → Sym
name_at x = record { 0 = x }

abbrev size : Trees → ℕ
size l = length (members l)

-- the node of a tree, whose list stands before its other parts
mutual
  rose_of : Tree → Rose
  rose_of nil = rose node.Nil none
  rose_of (truth b) = rose (node.Truth b) none
  rose_of (int z) = rose (node.Int z) none
  rose_of (text k) = rose (node.Text k) none
  rose_of (symbol x) = rose (node.Symbol (name_at x)) none
  rose_of itself = rose node.Itself none
  rose_of (class_named c) = rose (node.Class c) none
  rose_of (constant path) = rose (node.Constant path) none
  rose_of (set_constant x t) = rose (node.SetConstant (name_at x) 0) (more (rose_of t) none)
  rose_of (local depth slot x behind) = rose (node.Local depth slot (name_at x) behind) none
  rose_of (assign depth slot x behind t) = rose (node.Assign depth slot (name_at x) behind 0) (more (rose_of t) none)
  rose_of (field x) = rose (node.Field (name_at x)) none
  rose_of (set_field x t) = rose (node.SetField (name_at x) 0) (more (rose_of t) none)
  rose_of (global x) = rose (node.Global (name_at x)) none
  rose_of (set_global x t) = rose (node.SetGlobal (name_at x) 0) (more (rose_of t) none)
  rose_of (array l) = rose (node.Array 0 (size l)) (roses_onto l none)
  rose_of (hash l) = rose (node.Hash 0 (size l)) (roses_onto l none)
  rose_of (pairs l) = rose (node.Pairs 0 (size l)) (roses_onto l none)
  rose_of (interpolation l) = rose (node.Interpolation 0 (size l)) (roses_onto l none)
  rose_of (logical_and t u) = rose (node.And 0 1) (more (rose_of t) (more (rose_of u) none))
  rose_of (logical_or t u) = rose (node.Or 0 1) (more (rose_of t) (more (rose_of u) none))
  rose_of (logical_not t) = rose (node.Not 0) (more (rose_of t) none)
  rose_of (negate t) = rose (node.Negate 0) (more (rose_of t) none)
  rose_of (binary o t u) = rose (node.Binary o 0 1) (more (rose_of t) (more (rose_of u) none))
  rose_of (append t u) = rose (node.Append 0 1) (more (rose_of t) (more (rose_of u) none))
  rose_of (choose t u v) = rose (node.Choose 0 1 2) (more (rose_of t) (more (rose_of u) (more (rose_of v) none)))
  rose_of (repeat until t u) = rose (node.Loop until 0 1) (more (rose_of t) (more (rose_of u) none))
  rose_of (sequence l) = rose (node.Sequence 0 (size l)) (roses_onto l none)
  rose_of (bare x) = rose (node.Bare (name_at x) 0) none
  rose_of (call x l) = rose (node.Call (name_at x) 0 (size l) 0) (roses_onto l none)
  rose_of (send t x l) = rose (node.Send (size l) (name_at x) 0 (size l) 0) (roses_onto l (more (rose_of t) none))
  rose_of (with_block t u) = rose (node.WithBlock 0 1) (more (rose_of t) (more (rose_of u) none))
  rose_of (block scope parameters many t) = rose (node.Block scope parameters many 0) (more (rose_of t) none)
  rose_of (super l) = rose (node.Super 0 (size l)) (roses_onto l none)
  rose_of forwarding_super = rose node.ForwardingSuper none
  rose_of (yield l) = rose (node.Yield 0 (size l)) (roses_onto l none)
  rose_of (break t) = rose (node.Break 0) (more (rose_of t) none)
  rose_of (next t) = rose (node.Next 0) (more (rose_of t) none)
  rose_of (return t) = rose (node.Return 0) (more (rose_of t) none)
  rose_of (rescue t l u) = rose (node.Rescue (size l) 0 (size l) (suc (size l))) (roses_onto l (more (rose_of t) (more (rose_of u) none)))
  rose_of (clause l t u) = rose (node.Clause 0 (size l) (size l) (suc (size l))) (roses_onto l (more (rose_of t) (more (rose_of u) none)))
  rose_of (ensure t u) = rose (node.Ensure 0 1) (more (rose_of t) (more (rose_of u) none))
  rose_of (operator_assign o t u) = rose (node.OperatorAssign o 0 1) (more (rose_of t) (more (rose_of u) none))
  rose_of (append_assign t u) = rose (node.AppendAssign 0 1) (more (rose_of t) (more (rose_of u) none))
  rose_of (or_assign t u) = rose (node.OrAssign 0 1) (more (rose_of t) (more (rose_of u) none))
  rose_of (and_assign t u) = rose (node.AndAssign 0 1) (more (rose_of t) (more (rose_of u) none))
  rose_of (index t u) = rose (node.Index 0 1) (more (rose_of t) (more (rose_of u) none))
  rose_of (set_index t u v) = rose (node.SetIndex 0 1 2) (more (rose_of t) (more (rose_of u) (more (rose_of v) none)))
  rose_of (set_attribute t x u) = rose (node.SetAttribute 0 (name_at x) 1 0) (more (rose_of t) (more (rose_of u) none))
  rose_of (multiple_assign l t) = rose (node.MultipleAssign 0 (size l) (size l)) (roses_onto l (more (rose_of t) none))
  rose_of (splat t) = rose (node.Splat 0) (more (rose_of t) none)
  rose_of (pair t u) = rose (node.Pair 0 1) (more (rose_of t) (more (rose_of u) none))
  rose_of (method x scope parameters many t) = rose (node.Method (name_at x) scope parameters many 0) (more (rose_of t) none)
  rose_of (reader x) = rose (node.Reader (name_at x)) none
  rose_of (writer x) = rose (node.Writer (name_at x)) none
  rose_of (class_body x c l) = rose (node.ClassBody (name_at x) c 0 (size l)) (roses_onto l none)

  -- those of a list, before others
  roses_onto : Trees → Roses → Roses
  roses_onto empty rs = rs
  roses_onto (then_one l t) rs = roses_onto l (more (rose_of t) rs)

-- the tree of a node
mutual
  tree_made : Rose → Tree
  tree_made (rose n rs) = tree_of (trees_made rs) n

  trees_made : Roses → List Tree
  trees_made none = []
  trees_made (more r rs) = tree_made r ∷ trees_made rs

both : {A B C : Type 0} (f : A → B → C) {a a2 : A} {b b2 : B} → a ≡ a2 → b ≡ b2 → f a b ≡ f a2 b2
both f {a} {a2} {b} {b2} e h = ap (λ x. f x b) e ∙ ap (f a2) h

-- ---- a list, and what stands behind it

listed_more : (k : Trees) (ts : List Tree) (t : Tree) → listed_after k (ts ++ t ∷ []) ≡ then_one (listed_after k ts) t
listed_more k [] t = refl
listed_more k (s ∷ ts) t = listed_more (then_one k s) ts t

listed_members : (l : Trees) → listed (members l) ≡ l
listed_members empty = refl
listed_members (then_one l t) = listed_more empty (members l) t ∙ ap (λ (k : Trees). then_one k t) (listed_members l)

list_back : (l : Trees) (us ts : List Tree) → ts ≡ members l ++ us → listed (take (size l) ts) ≡ l
list_back l us ts e = ap (λ (x : List Tree). listed (take (size l) x)) e ∙ ap listed (take-append_seam (members l) us) ∙ listed_members l

first_back : (l : Trees) (t : Tree) (us ts : List Tree) → ts ≡ members l ++ (t ∷ us) → get_or ts (size l) nil ≡ t
first_back l t us ts e = ap (λ (x : List Tree). get_or x (size l) nil) e ∙ get_or-append_seam (members l) t us nil

second : (ms : List Tree) (t u : Tree) (us : List Tree) → get_or (ms ++ (t ∷ u ∷ us)) (suc (length ms)) nil ≡ u
second [] t u us = refl
second (m ∷ ms) t u us = second ms t u us

second_back : (l : Trees) (t u : Tree) (us ts : List Tree) → ts ≡ members l ++ (t ∷ u ∷ us) → get_or ts (suc (size l)) nil ≡ u
second_back l t u us ts e = ap (λ (x : List Tree). get_or x (suc (size l)) nil) e ∙ second (members l) t u us

-- ---- there and back

mutual
  unfolding tree_of rose_of tree_made

  back : (t : Tree) → tree_made (rose_of t) ≡ t
  back nil = refl
  back (truth b) = refl
  back (int z) = refl
  back (text k) = refl
  back (symbol x) = refl
  back itself = refl
  back (class_named c) = refl
  back (constant path) = refl
  back (set_constant x t) = ap (λ (s : Tree). set_constant x s) (back t)
  back (local depth slot x behind) = refl
  back (assign depth slot x behind t) = ap (λ (s : Tree). assign depth slot x behind s) (back t)
  back (field x) = refl
  back (set_field x t) = ap (λ (s : Tree). set_field x s) (back t)
  back (global x) = refl
  back (set_global x t) = ap (λ (s : Tree). set_global x s) (back t)
  back (array l) = ap array (list_back l [] _ (onto l none))
  back (hash l) = ap hash (list_back l [] _ (onto l none))
  back (pairs l) = ap pairs (list_back l [] _ (onto l none))
  back (interpolation l) = ap interpolation (list_back l [] _ (onto l none))
  back (logical_and t u) = both logical_and (back t) (back u)
  back (logical_or t u) = both logical_or (back t) (back u)
  back (logical_not t) = ap (λ (s : Tree). logical_not s) (back t)
  back (negate t) = ap (λ (s : Tree). negate s) (back t)
  back (binary o t u) = both (binary o) (back t) (back u)
  back (append t u) = both append (back t) (back u)
  back (choose t u v) = both (λ (r s : Tree). choose r s (tree_made (rose_of v))) (back t) (back u) ∙ ap (choose t u) (back v)
  back (repeat until t u) = both (repeat until) (back t) (back u)
  back (sequence l) = ap sequence (list_back l [] _ (onto l none))
  back (bare x) = refl
  back (call x l) = ap (call x) (list_back l [] _ (onto l none))
  back (send t x l) = both (λ (s : Tree) (k : Trees). send s x k) (first_back l (tree_made (rose_of t)) [] _ (onto l (more (rose_of t) none)) ∙ back t) (list_back l (tree_made (rose_of t) ∷ []) _ (onto l (more (rose_of t) none)))
  back (with_block t u) = both with_block (back t) (back u)
  back (block scope parameters many t) = ap (λ (s : Tree). block scope parameters many s) (back t)
  back (super l) = ap super (list_back l [] _ (onto l none))
  back forwarding_super = refl
  back (yield l) = ap yield (list_back l [] _ (onto l none))
  back (break t) = ap (λ (s : Tree). break s) (back t)
  back (next t) = ap (λ (s : Tree). next s) (back t)
  back (return t) = ap (λ (s : Tree). return s) (back t)
  back (rescue t l u) = both (λ (s : Tree) (k : Trees). rescue s k (get_or (trees_made (roses_onto l (more (rose_of t) (more (rose_of u) none)))) (suc (size l)) nil)) (first_back l (tree_made (rose_of t)) (tree_made (rose_of u) ∷ []) _ (onto l (more (rose_of t) (more (rose_of u) none))) ∙ back t) (list_back l (tree_made (rose_of t) ∷ tree_made (rose_of u) ∷ []) _ (onto l (more (rose_of t) (more (rose_of u) none)))) ∙ ap (rescue t l) (second_back l (tree_made (rose_of t)) (tree_made (rose_of u)) [] _ (onto l (more (rose_of t) (more (rose_of u) none))) ∙ back u)
  back (clause l t u) = both (λ (k : Trees) (s : Tree). clause k s (get_or (trees_made (roses_onto l (more (rose_of t) (more (rose_of u) none)))) (suc (size l)) nil)) (list_back l (tree_made (rose_of t) ∷ tree_made (rose_of u) ∷ []) _ (onto l (more (rose_of t) (more (rose_of u) none)))) (first_back l (tree_made (rose_of t)) (tree_made (rose_of u) ∷ []) _ (onto l (more (rose_of t) (more (rose_of u) none))) ∙ back t) ∙ ap (clause l t) (second_back l (tree_made (rose_of t)) (tree_made (rose_of u)) [] _ (onto l (more (rose_of t) (more (rose_of u) none))) ∙ back u)
  back (ensure t u) = both ensure (back t) (back u)
  back (operator_assign o t u) = both (operator_assign o) (back t) (back u)
  back (append_assign t u) = both append_assign (back t) (back u)
  back (or_assign t u) = both or_assign (back t) (back u)
  back (and_assign t u) = both and_assign (back t) (back u)
  back (index t u) = both index (back t) (back u)
  back (set_index t u v) = both (λ (r s : Tree). set_index r s (tree_made (rose_of v))) (back t) (back u) ∙ ap (set_index t u) (back v)
  back (set_attribute t x u) = both (λ (r s : Tree). set_attribute r x s) (back t) (back u)
  back (multiple_assign l t) = both multiple_assign (list_back l (tree_made (rose_of t) ∷ []) _ (onto l (more (rose_of t) none))) (first_back l (tree_made (rose_of t)) [] _ (onto l (more (rose_of t) none)) ∙ back t)
  back (splat t) = ap (λ (s : Tree). splat s) (back t)
  back (pair t u) = both pair (back t) (back u)
  back (method x scope parameters many t) = ap (λ (s : Tree). method x scope parameters many s) (back t)
  back (reader x) = refl
  back (writer x) = refl
  back (class_body x c l) = ap (class_body x c) (list_back l [] _ (onto l none))

  onto : (l : Trees) (rs : Roses) → trees_made (roses_onto l rs) ≡ members l ++ trees_made rs
  onto empty rs = refl
  onto (then_one l t) rs = onto l (more (rose_of t) rs) ∙ ap (λ (s : Tree). members l ++ s ∷ trees_made rs) (back t) ∙ sym (append_assoc (members l) (t ∷ []) (trees_made rs))

Node-set : IsSet Node
Node-set = Prim.hlevel props

pub Tree-set : IsSet Tree
Tree-set = collapsible→set (λ x y p. sym (back x) ∙ ap tree_made (ap rose_of p) ∙ back y)
    (λ x y p q. ap (λ z. sym (back x) ∙ ap tree_made z ∙ back y) (Rose-set Node-set (rose_of x) (rose_of y) (ap rose_of p) (ap rose_of q)))

pub IsTableOf-prop : (p : Program) (t : MethodTable) → IsProp (IsTableOf p t)
IsTableOf-prop p t = Prim.hlevel (props, Tree-set)
