-- The tree at a place of a table is the tree of the node there.
use Rattle.std.proofs.Common.{◌≡◌, ℕ, zero, suc, ◌+◌, ◌-◌, ◌<◌, ◌≤◌, ◌∙◌, sym, ap, refl, arith, List, [], ◌∷◌, ◌++◌, length, get_or, take, drop, length-append, length-take, append_assoc, subst, true, false, nat_lt}
use Rattle.std.proofs.lemmas.Bool.Decides.{nat_tests}
use Rattle.std.proofs.lemmas.List.{append-nil, get_or-take}
use Rattle.std.proofs.Math.Seq.{get_or-append_seam, take-append_seam, take-length, drop-cons}
use Rattle.std.proofs.Math.ListN.{get_or-eq_default}
use Rattle.rr_tree.specs.Tree.{Tree, nil, tree_with, tree_of, trees_after, tree_at, HasPartsBefore, IsOrdered}
use Rattle.rr_tree.specs.Nodes.{node_tree, trees_in, trees_before}
use Rattle.rr_tree.specs.declared.node.Node.{Node}
use Rattle.rr_tree.specs.declared.node.Node.TheVariants as node

-- later trees stand behind
record Extends (ts : List Tree) (ns : List Node) : Type 0 where
  rest : List Tree
  is : trees_after ts ns ≡ ts ++ rest
  count : length rest ≡ length ns

extends : (ts : List Tree) (ns : List Node) → Extends ts ns
unfolding trees_after
extends ts [] = record { rest = []; is = sym (append-nil ts); count = refl }
extends ts (n ∷ ns) =
    let more = extends (ts ++ tree_of ts n ∷ []) ns in
    record {
      rest = tree_of ts n ∷ more.rest;
      is = more.is ∙ append_assoc ts (tree_of ts n ∷ []) more.rest;
      count = ap suc more.count;
    }

-- each tree is made of those before it
made : (ts : List Tree) (ns : List Node) (i : ℕ) → i < length ns → get_or (trees_after ts ns) (length ts + i) nil ≡ tree_of (take (length ts + i) (trees_after ts ns)) (get_or ns i node.Nil)
unfolding trees_after
made ts [] i h = absurd (omega arith)
made ts (n ∷ ns) zero h =
    let t = tree_of ts n in
    let more = extends (ts ++ t ∷ []) ns in
    let e = more.is ∙ append_assoc ts (t ∷ []) more.rest in
    let z : length ts + 0 ≡ length ts = omega arith in
    ap (λ k. get_or (trees_after (ts ++ t ∷ []) ns) k nil) z
    ∙ ap (λ l. get_or l (length ts) nil) e
    ∙ get_or-append_seam ts t more.rest nil
    ∙ ap (λ l. tree_of l n) (sym (ap (λ k. take k (trees_after (ts ++ t ∷ []) ns)) z ∙ ap (take (length ts)) e ∙ take-append_seam ts (t ∷ more.rest)))
made ts (n ∷ ns) (suc i) h =
    let t = tree_of ts n in
    let all = trees_after (ts ++ t ∷ []) ns in
    let z : length ts + suc i ≡ length (ts ++ t ∷ []) + i = omega (arith, length-append ts (t ∷ [])) in
    ap (λ k. get_or all k nil) z
    ∙ made (ts ++ t ∷ []) ns i (omega arith)
    ∙ ap (λ k. tree_of (take k all) (get_or ns i node.Nil)) (sym z)

abbrev trees : List Node → List Tree
trees ns = trees_after [] ns

-- the parts of a list, one by one
parts : (ns : List Node) (i end first count : ℕ) → first + count ≡ end → end ≤ i → i ≤ length (trees ns) → take count (drop first (take i (trees ns))) ≡ trees_before ns end count
unfolding tree_at
parts ns i end first zero e within most = refl
parts ns i end first (suc more) e within most =
    let front = take i (trees ns) in
    let all : first < length front = omega (arith, length-take i (trees ns)) in
    let here : end - suc more ≡ first = omega arith in
    ap (take (suc more)) (drop-cons front first nil all)
    ∙ ap (λ t. t ∷ take more (drop (suc first) front)) (get_or-take i (trees ns) first nil (omega arith) ∙ sym (ap (λ k. get_or (trees ns) k nil) here))
    ∙ ap (λ l. get_or (trees ns) (end - suc more) nil ∷ l) (parts ns i end (suc first) more (omega arith) within most)

-- a part that stands before the node
part : (ns : List Node) (i a : ℕ) → a < i → get_or (take i (trees ns)) a nil ≡ tree_at ns a
unfolding tree_at
part ns i a h = get_or-take i (trees ns) a nil h

-- a list that stands before a place is the same where only what stands before it is seen
list_before : (ns : List Node) (i first count : ℕ) → first + count ≤ i → i ≤ length (trees ns) → take count (drop first (take i (trees ns))) ≡ trees_in ns first count
unfolding trees_in
list_before ns i first count within most =
    parts ns i (first + count) first count refl within most
    ∙ sym (parts ns (length (trees ns)) (first + count) first count refl (omega arith) (omega arith))
    ∙ ap (λ l. take count (drop first l)) (take-length (trees ns))

-- readers of parts and of lists that agree before a number give the same tree to a node whose parts stand before it
module _ (at at2 : ℕ → Tree) (list list2 : ℕ → ℕ → List Tree) (i : ℕ) (part : (a : ℕ) → a < i → at a ≡ at2 a)
    (items : (first count : ℕ) → first + count ≤ i → list first count ≡ list2 first count) where
  same_parts : (n : Node) → HasPartsBefore i n → tree_with at list n ≡ tree_with at2 list2 n
  same_parts node.Nil h = refl
  same_parts (node.Truth b) h = refl
  same_parts (node.Int z) h = refl
  same_parts (node.Text k) h = refl
  same_parts (node.Symbol x) h = refl
  same_parts node.Itself h = refl
  same_parts (node.Class c) h = refl
  same_parts (node.Constant path) h = refl
  same_parts (node.SetConstant x a) h = let e0 = part a h in cc
  same_parts (node.Local depth slot x behind) h = refl
  same_parts (node.Assign depth slot x behind a) h = let e0 = part a h in cc
  same_parts (node.Field x) h = refl
  same_parts (node.SetField x a) h = let e0 = part a h in cc
  same_parts (node.Global x) h = refl
  same_parts (node.SetGlobal x a) h = let e0 = part a h in cc
  same_parts (node.Array first count) h = let e0 = items first count h in cc
  same_parts (node.Hash first count) h = let e0 = items first count h in cc
  same_parts (node.Pairs first count) h = let e0 = items first count h in cc
  same_parts (node.Interpolation first count) h = let e0 = items first count h in cc
  same_parts (node.And a b) h = let e0 = part a h.0 in let e1 = part b h.1 in cc
  same_parts (node.Or a b) h = let e0 = part a h.0 in let e1 = part b h.1 in cc
  same_parts (node.Not a) h = let e0 = part a h in cc
  same_parts (node.Negate a) h = let e0 = part a h in cc
  same_parts (node.Binary o a b) h = let e0 = part a h.0 in let e1 = part b h.1 in cc
  same_parts (node.Append a b) h = let e0 = part a h.0 in let e1 = part b h.1 in cc
  same_parts (node.Choose a b d) h = let e0 = part a h.0 in let e1 = part b h.1 in let e2 = part d h.2 in cc
  same_parts (node.Loop until a b) h = let e0 = part a h.0 in let e1 = part b h.1 in cc
  same_parts (node.Sequence first count) h = let e0 = items first count h in cc
  same_parts (node.Bare x site) h = refl
  same_parts (node.Call x first count site) h = let e0 = items first count h in cc
  same_parts (node.Send a x first count site) h = let e0 = part a h.0 in let e1 = items first count h.1 in cc
  same_parts (node.WithBlock a b) h = let e0 = part a h.0 in let e1 = part b h.1 in cc
  same_parts (node.Block scope parameters size a) h = let e0 = part a h in cc
  same_parts (node.Super first count) h = let e0 = items first count h in cc
  same_parts node.ForwardingSuper h = refl
  same_parts (node.Yield first count) h = let e0 = items first count h in cc
  same_parts (node.Break a) h = let e0 = part a h in cc
  same_parts (node.Next a) h = let e0 = part a h in cc
  same_parts (node.Return a) h = let e0 = part a h in cc
  same_parts (node.Rescue a first count b) h = let e0 = part a h.0 in let e1 = items first count h.1 in let e2 = part b h.2 in cc
  same_parts (node.Clause first count a b) h = let e0 = items first count h.0 in let e1 = part a h.1 in let e2 = part b h.2 in cc
  same_parts (node.Ensure a b) h = let e0 = part a h.0 in let e1 = part b h.1 in cc
  same_parts (node.OperatorAssign o a b) h = let e0 = part a h.0 in let e1 = part b h.1 in cc
  same_parts (node.AppendAssign a b) h = let e0 = part a h.0 in let e1 = part b h.1 in cc
  same_parts (node.OrAssign a b) h = let e0 = part a h.0 in let e1 = part b h.1 in cc
  same_parts (node.AndAssign a b) h = let e0 = part a h.0 in let e1 = part b h.1 in cc
  same_parts (node.Index a b) h = let e0 = part a h.0 in let e1 = part b h.1 in cc
  same_parts (node.SetIndex a b d) h = let e0 = part a h.0 in let e1 = part b h.1 in let e2 = part d h.2 in cc
  same_parts (node.SetAttribute a x b site) h = let e0 = part a h.0 in let e1 = part b h.1 in cc
  same_parts (node.MultipleAssign first count a) h = let e0 = items first count h.0 in let e1 = part a h.1 in cc
  same_parts (node.Splat a) h = let e0 = part a h in cc
  same_parts (node.Pair a b) h = let e0 = part a h.0 in let e1 = part b h.1 in cc
  same_parts (node.Method x scope parameters size a) h = let e0 = part a h in cc
  same_parts (node.Reader x) h = refl
  same_parts (node.Writer x) h = refl
  same_parts (node.ClassBody x superclass first count) h = let e0 = items first count h in cc
  same_parts (node.Item a) h = part a h

-- a node that stands after its parts has the tree that they make
made_of : (ns : List Node) (i : ℕ) (n : Node) → i ≤ length (trees ns) → HasPartsBefore i n → tree_of (take i (trees ns)) n ≡ node_tree ns n
unfolding tree_of
made_of ns i n most h =
    same_parts (λ a. get_or (take i (trees ns)) a nil) (tree_at ns) (λ first count. take count (drop first (take i (trees ns)))) (trees_in ns) i (part ns i) (λ first count within. list_before ns i first count within most) n h

pub length-trees : (ns : List Node) → length (trees_after [] ns) ≡ length ns
length-trees ns = let all = extends [] ns in ap length all.is ∙ all.count

-- the tree at a place is the tree of the node there
pub tree_there : (ns : List Node) → IsOrdered ns → (i : ℕ) → i < length ns → tree_at ns i ≡ node_tree ns (get_or ns i node.Nil)
unfolding tree_at
tree_there ns ordered i h =
    let z : length {A = Tree} [] + i ≡ i = omega arith in
    sym (ap (λ k. get_or (trees ns) k nil) z)
    ∙ made [] ns i h
    ∙ ap (λ k. tree_of (take k (trees ns)) (get_or ns i node.Nil)) z
    ∙ made_of ns i (get_or ns i node.Nil) (omega (arith, length-trees ns)) (ordered i h)

-- past the table stands nil
pub tree_past : (ns : List Node) (i : ℕ) → length ns ≤ i → tree_at ns i ≡ nil
unfolding tree_at
tree_past ns i h = get_or-eq_default (trees ns) nil (omega (arith, length-trees ns))

-- the same at each place, where nil stands past the table
pub tree_is : (ns : List Node) → IsOrdered ns → (i : ℕ) → tree_at ns i ≡ node_tree ns (get_or ns i node.Nil)
tree_is ns ordered i = elim (nat_lt i (length ns)) as (λ b. nat_lt i (length ns) ≡ b → tree_at ns i ≡ node_tree ns (get_or ns i node.Nil)) [
  | true ↦ λ e. tree_there ns ordered i (grind (arith, nat_tests))
  | false ↦ λ e. let past : length ns ≤ i = grind (arith, nat_tests) in tree_past ns i past ∙ ap (node_tree ns) (sym (get_or-eq_default ns node.Nil past))
] refl

-- the parts of a node at any place stand before it
pub parts_before : (ns : List Node) → IsOrdered ns → (i : ℕ) → HasPartsBefore i (get_or ns i node.Nil)
parts_before ns ordered i = elim (nat_lt i (length ns)) as (λ b. nat_lt i (length ns) ≡ b → HasPartsBefore i (get_or ns i node.Nil)) [
  | true ↦ λ e. ordered i (grind (arith, nat_tests))
  | false ↦ λ e. let past : length ns ≤ i = grind (arith, nat_tests) in subst (HasPartsBefore i) (sym (get_or-eq_default ns node.Nil past)) tt
] refl

-- the trees of a list within the table, one by one
pub trees_in-before : (ns : List Node) (first count : ℕ) → first + count ≤ length ns → trees_in ns first count ≡ trees_before ns (first + count) count
unfolding trees_in
trees_in-before ns first count within =
    ap (λ l. take count (drop first l)) (sym (take-length (trees ns)))
    ∙ parts ns (length (trees ns)) (first + count) first count refl (omega (arith, length-trees ns)) (omega arith)
