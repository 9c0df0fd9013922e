-- What a table of nodes stands for stays as it grows.
use Rattle.std.proofs.Common.{below_more, ◌≡◌, ℕ, zero, suc, ◌+◌, ◌<◌, ◌≤◌, List, [], ◌∷◌, ◌++◌, length, get_or, map, take, drop, refl, sym, ap, ◌∙◌, subst, append_assoc, arith, length-append}
use Rattle.std.specs.Prelude.{All}
use Rattle.std.proofs.lemmas.List.{append-nil, get_or_append_left, length-map}
use Rattle.std.proofs.Math.Seq.{get_or-append_seam, drop-append_seam, take-length}
use Rattle.rr_tree.specs.declared.node.Node.{Node}
use Rattle.rr_tree.specs.declared.node.Node.TheVariants as node
use Rattle.rr_tree.specs.Tree.{Tree, nil, tree_of, trees_after, tree_at, HasPartsBefore, IsOrdered}
use Rattle.rr_tree.specs.Nodes.{Extends, item, trees_in, node_tree}

pub trees_after-append : (ts : List Tree) (a b : List Node) → trees_after ts (a ++ b) ≡ trees_after (trees_after ts a) b
unfolding trees_after
trees_after-append ts [] b = refl
trees_after-append ts (n ∷ a) b = trees_after-append (ts ++ tree_of ts n ∷ []) a b

pub length-trees_after : (ts : List Tree) (a : List Node) → length (trees_after ts a) ≡ length ts + length a
unfolding trees_after
length-trees_after ts [] = omega arith
length-trees_after ts (n ∷ a) = omega (arith, length-trees_after (ts ++ tree_of ts n ∷ []) a, length-append ts (tree_of ts n ∷ []))

get_or-front : (ts us : List Tree) (i : ℕ) → i < length ts → get_or (ts ++ us) i nil ≡ get_or ts i nil
get_or-front ts us i lt = get_or_append_left ts us nil i lt

pub trees_after-kept : (ts : List Tree) (b : List Node) (i : ℕ) → i < length ts → get_or (trees_after ts b) i nil ≡ get_or ts i nil
unfolding trees_after
trees_after-kept ts [] i lt = refl
trees_after-kept ts (n ∷ b) i lt = trees_after-kept (ts ++ tree_of ts n ∷ []) b i (omega (arith, length-append ts (tree_of ts n ∷ []))) ∙ get_or-front ts (tree_of ts n ∷ []) i lt

-- a node's tree stays
pub tree_at-kept : (old new : List Node) (i : ℕ) → Extends old new → i < length old → tree_at new i ≡ tree_at old i
unfolding tree_at
tree_at-kept old new i e lt =
    ap (λ (ns : List Node). get_or (trees_after [] ns) i nil) e.1
    ∙ ap (λ (ts : List Tree). get_or ts i nil) (trees_after-append [] old e.0)
    ∙ trees_after-kept (trees_after [] old) e.0 i (omega (arith, length-trees_after [] old))

tree_of_is : (ns : List Node) (n : Node) → tree_of (trees_after [] ns) n ≡ node_tree ns n
unfolding tree_of tree_at trees_in
tree_of_is ns n = refl

get_or-last : (ts : List Tree) (t : Tree) (i : ℕ) → i ≡ length ts → get_or (ts ++ t ∷ []) i nil ≡ t
get_or-last ts t i e = rw e (get_or-append_seam ts t [] nil)

-- the tree of the node that was put last
pub tree_at-put : (ns : List Node) (n : Node) → tree_at (ns ++ n ∷ []) (length ns) ≡ node_tree ns n
unfolding tree_at trees_after
tree_at-put ns n =
    ap (λ (ts : List Tree). get_or ts (length ns) nil) (trees_after-append [] ns (n ∷ []))
    ∙ get_or-last (trees_after [] ns) (tree_of (trees_after [] ns) n) (length ns) (omega (arith, length-trees_after [] ns))
    ∙ tree_of_is ns n

pub Extends-trans : (a b c : List Node) → Extends a b → Extends b c → Extends a c
Extends-trans a b c p q = (p.0 ++ q.0, q.1 ∙ ap (λ (x : List Node). x ++ q.0) p.1 ∙ append_assoc a p.0 q.0)

pub Extends-refl : (a : List Node) → Extends a a
Extends-refl a = ([], sym (append-nil a))

pub length-kept : (a b : List Node) → Extends a b → length a ≤ length b
length-kept a b e = omega (arith, ap length e.1, length-append a e.0)

-- ---- lists

All-tail : (P : ℕ → Type 0) (x : ℕ) (xs : List ℕ) → All P (x ∷ xs) → All P xs
All-tail P x xs all = λ k d lt. all (suc k) d (omega arith)

items_after : (ts us : List Tree) (xs : List ℕ) → All (λ i. i < length ts) xs → trees_after (ts ++ us) (map item xs) ≡ ts ++ (us ++ map (λ i. get_or ts i nil) xs)
unfolding trees_after tree_of
items_after ts us [] all = ap (λ (x : List Tree). ts ++ x) (sym (append-nil us))
items_after ts us (i ∷ xs) all =
    let t : Tree = get_or ts i nil in
    ap (λ (x : Tree). trees_after ((ts ++ us) ++ x ∷ []) (map item xs)) (get_or-front ts us i (all zero i (omega arith)))
    ∙ ap (λ (x : List Tree). trees_after x (map item xs)) (append_assoc ts us (t ∷ []))
    ∙ items_after ts (us ++ t ∷ []) xs (All-tail (λ i. i < length ts) i xs all)
    ∙ ap (λ (x : List Tree). ts ++ x) (append_assoc us (t ∷ []) (map (λ i. get_or ts i nil) xs))

All-same : (m n : ℕ) (xs : List ℕ) → m ≡ n → All (λ i. i < n) xs → All (λ i. i < m) xs
All-same m n xs e all = λ k d lt. subst (λ (q : ℕ). get_or xs k d < q) (sym e) (all k d lt)

-- items that stand side by side are the list of what they name
pub trees_in-items : (ns : List Node) (xs : List ℕ) → All (λ i. i < length ns) xs → trees_in (ns ++ map item xs) (length ns) (length xs) ≡ map (tree_at ns) xs
unfolding trees_in tree_at trees_after
trees_in-items ns xs all =
    let ts : List Tree = trees_after [] ns in
    let us : List Tree = map (λ i. get_or ts i nil) xs in
    let size : length ts ≡ length ns = omega (arith, length-trees_after [] ns) in
    let is : trees_after [] (ns ++ map item xs) ≡ ts ++ us =
    trees_after-append [] ns (map item xs) ∙ ap (λ (x : List Tree). trees_after x (map item xs)) (sym (append-nil ts)) ∙ items_after ts [] xs (All-same (length ts) (length ns) xs size all) in
    ap (λ (x : List Tree). take (length xs) (drop (length ns) x)) is
    ∙ ap (λ (n : ℕ). take (length xs) (drop n (ts ++ us))) (sym size)
    ∙ ap (take (length xs)) (drop-append_seam ts us)
    ∙ ap (λ (n : ℕ). take n us) (sym (length-map xs (λ i. get_or ts i nil)))
    ∙ take-length us

-- ---- order

-- a table stays in order where a node is put behind its parts
pub IsOrdered-put : (ns : List Node) (n : Node) → IsOrdered ns → HasPartsBefore (length ns) n → IsOrdered (ns ++ n ∷ [])
IsOrdered-put ns n ordered h =
    let P : ℕ → Type 0 = λ k. HasPartsBefore k (get_or (ns ++ n ∷ []) k node.Nil) in
    let below : (k : ℕ) → k < length ns → P k = λ k lt. subst (HasPartsBefore k) (sym (get_or_append_left ns (n ∷ []) node.Nil k lt)) (ordered k lt) in
    let here : P (length ns) = subst (HasPartsBefore (length ns)) (sym (get_or-append_seam ns n [] node.Nil)) h in
    λ i lt. below_more P (length ns) below here i (omega (arith, length-append ns (n ∷ [])))
