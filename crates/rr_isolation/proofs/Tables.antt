-- The parts of a node of a table, by number.
use Rattle.std.proofs.Common.{◌≡◌, ◌∙◌, sym, ap, refl, arith, ℕ, zero, suc, ◌+◌, ◌-◌, ◌<◌, ◌≤◌, List, [], ◌∷◌, ◌++◌, length, map, append_assoc, All, get_or}
use Rattle.std.proofs.lemmas.List.{append-nil}
use Rattle.std.proofs.lemmas.List.FromFn.{length-range_with_len, get_or-range_with_len}
use Rattle.std.specs.List.{range_with_len}
use Rattle.rr_tree.specs.Tree.{Tree, Trees, empty, then_one, listed, listed_after, tree_at}
use Rattle.rr_tree.specs.Nodes.{trees_in, trees_before}
use Rattle.rr_tree.specs.declared.node.Node.{Node}
use Rattle.rr_tree.proofs.Trees.{trees_in-before}
use Rattle.rr_isolation.specs.Parts.{each}

each-listed_after : (l : Trees) (ts : List Tree) → each (listed_after l ts) ≡ each l ++ ts
each-listed_after l [] = sym (append-nil (each l))
each-listed_after l (t ∷ ts) = each-listed_after (then_one l t) ts ∙ append_assoc (each l) (t ∷ []) ts

pub each-listed : (ts : List Tree) → each (listed ts) ≡ ts
each-listed ts = each-listed_after empty ts

one_by_one : (ns : List Node) (end first count : ℕ) → first + count ≡ end → map (tree_at ns) (range_with_len first count) ≡ trees_before ns end count
one_by_one ns end first zero e = refl
one_by_one ns end first (suc more) e =
    let here : first ≡ end - suc more = omega arith in
    ap (λ k. tree_at ns k ∷ map (tree_at ns) (range_with_len (first + 1) more)) here ∙ ap (λ l. tree_at ns (end - suc more) ∷ l) (one_by_one ns end (first + 1) more (omega arith))

-- the trees of the items of a list
pub listed_parts : (ns : List Node) (first count : ℕ) → first + count ≤ length ns → map (tree_at ns) (range_with_len first count) ≡ each (listed (trees_in ns first count))
listed_parts ns first count within = one_by_one ns (first + count) first count refl ∙ sym (trees_in-before ns first count within) ∙ sym (each-listed (trees_in ns first count))

-- the numbers of the items of a list
pub range_below : (i first count : ℕ) → first + count ≤ i → All (λ k. k < i) (range_with_len first count)
range_below i first count h = λ k d lt.
    let within : k < count = omega (arith, length-range_with_len first count) in
    let is : get_or (range_with_len first count) k d ≡ first + k = get_or-range_with_len first count k d within in
    omega arith
