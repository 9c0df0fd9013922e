-- What stands in a tree of a table stands before its node, as a list that is counted tells it.
use Rattle.std.proofs.Common.{◌≡◌, ◌∙◌, sym, ap, subst, refl, arith, ℕ, zero, suc, ◌<◌, ◌≤◌, ⊎_elim, List, [], ◌∷◌, length, map, All, Contains, true, false, nat_lt, get_or}
use Rattle.std.proofs.lemmas.Bool.Decides.{nat_tests}
use Rattle.std.proofs.lemmas.List.Elements.{All-cons, All-contains}
use Rattle.std.specs.List.{range_with_len}
use Rattle.rr_tree.specs.Tree.{Tree, tree_at, HasPartsBefore, IsOrdered}
use Rattle.rr_tree.specs.Nodes.{node_tree, IsNoItem}
use Rattle.rr_tree.specs.declared.node.Node.{Node}
use Rattle.rr_tree.specs.declared.node.Node.TheVariants as node
use Rattle.rr_isolation.specs.Parts.{parts}
use Rattle.rr_tree.proofs.Trees.{tree_is, tree_past}
use Rattle.rr_isolation.proofs.Searching.{item_or}
use Rattle.rr_isolation.proofs.Spots.{contained}
use Rattle.rr_isolation.proofs.Tables.{listed_parts, range_below}

-- the numbers of a node's parts
record Numbered (n : Node) : Type 0 where
  numbers : List ℕ
  trees : (ns : List Node) (i : ℕ) → HasPartsBefore i n → i ≤ length ns → map (tree_at ns) numbers ≡ parts (node_tree ns n)
  before : (i : ℕ) → HasPartsBefore i n → All (λ k. k < i) numbers

none : (i : ℕ) → All (λ k. k < i) []
none i = λ k d lt. absurd (omega arith)

one : (i a : ℕ) → a < i → All (λ k. k < i) (a ∷ [])
one i a h = All-cons (λ k. k < i) a [] h (none i)

two : (i a b : ℕ) → a < i → b < i → All (λ k. k < i) (a ∷ b ∷ [])
two i a b h g = All-cons (λ k. k < i) a (b ∷ []) h (one i b g)

-- an item of a list is another node's entry
numbered : (n : Node) → IsNoItem n → Numbered n
numbered (node.Item a) h = absurd h
numbered (node.SetConstant x a) h = record { numbers = a ∷ []; trees = λ ns i b w. refl; before = λ i b. one i a b }
numbered (node.Assign depth slot x behind a) h = record { numbers = a ∷ []; trees = λ ns i b w. refl; before = λ i b. one i a b }
numbered (node.SetField x a) h = record { numbers = a ∷ []; trees = λ ns i b w. refl; before = λ i b. one i a b }
numbered (node.SetGlobal x a) h = record { numbers = a ∷ []; trees = λ ns i b w. refl; before = λ i b. one i a b }
numbered (node.Not a) h = record { numbers = a ∷ []; trees = λ ns i b w. refl; before = λ i b. one i a b }
numbered (node.Negate a) h = record { numbers = a ∷ []; trees = λ ns i b w. refl; before = λ i b. one i a b }
numbered (node.Block scope parameters size a) h = record { numbers = a ∷ []; trees = λ ns i b w. refl; before = λ i b. one i a b }
numbered (node.Break a) h = record { numbers = a ∷ []; trees = λ ns i b w. refl; before = λ i b. one i a b }
numbered (node.Next a) h = record { numbers = a ∷ []; trees = λ ns i b w. refl; before = λ i b. one i a b }
numbered (node.Return a) h = record { numbers = a ∷ []; trees = λ ns i b w. refl; before = λ i b. one i a b }
numbered (node.Splat a) h = record { numbers = a ∷ []; trees = λ ns i b w. refl; before = λ i b. one i a b }
numbered (node.And a b) h = record { numbers = a ∷ b ∷ []; trees = λ ns i p w. refl; before = λ i p. two i a b p.0 p.1 }
numbered (node.Or a b) h = record { numbers = a ∷ b ∷ []; trees = λ ns i p w. refl; before = λ i p. two i a b p.0 p.1 }
numbered (node.Binary o a b) h = record { numbers = a ∷ b ∷ []; trees = λ ns i p w. refl; before = λ i p. two i a b p.0 p.1 }
numbered (node.Append a b) h = record { numbers = a ∷ b ∷ []; trees = λ ns i p w. refl; before = λ i p. two i a b p.0 p.1 }
numbered (node.Loop until a b) h = record { numbers = a ∷ b ∷ []; trees = λ ns i p w. refl; before = λ i p. two i a b p.0 p.1 }
numbered (node.WithBlock a b) h = record { numbers = a ∷ b ∷ []; trees = λ ns i p w. refl; before = λ i p. two i a b p.0 p.1 }
numbered (node.Ensure a b) h = record { numbers = a ∷ b ∷ []; trees = λ ns i p w. refl; before = λ i p. two i a b p.0 p.1 }
numbered (node.OperatorAssign o a b) h = record { numbers = a ∷ b ∷ []; trees = λ ns i p w. refl; before = λ i p. two i a b p.0 p.1 }
numbered (node.AppendAssign a b) h = record { numbers = a ∷ b ∷ []; trees = λ ns i p w. refl; before = λ i p. two i a b p.0 p.1 }
numbered (node.OrAssign a b) h = record { numbers = a ∷ b ∷ []; trees = λ ns i p w. refl; before = λ i p. two i a b p.0 p.1 }
numbered (node.AndAssign a b) h = record { numbers = a ∷ b ∷ []; trees = λ ns i p w. refl; before = λ i p. two i a b p.0 p.1 }
numbered (node.Index a b) h = record { numbers = a ∷ b ∷ []; trees = λ ns i p w. refl; before = λ i p. two i a b p.0 p.1 }
numbered (node.SetAttribute a x b site) h = record { numbers = a ∷ b ∷ []; trees = λ ns i p w. refl; before = λ i p. two i a b p.0 p.1 }
numbered (node.Pair a b) h = record { numbers = a ∷ b ∷ []; trees = λ ns i p w. refl; before = λ i p. two i a b p.0 p.1 }
numbered (node.Choose a b d) h = record { numbers = a ∷ b ∷ d ∷ []; trees = λ ns i p w. refl; before = λ i p. All-cons (λ k. k < i) a (b ∷ d ∷ []) p.0 (two i b d p.1 p.2) }
numbered (node.SetIndex a b d) h = record { numbers = a ∷ b ∷ d ∷ []; trees = λ ns i p w. refl; before = λ i p. All-cons (λ k. k < i) a (b ∷ d ∷ []) p.0 (two i b d p.1 p.2) }
numbered (node.Array first count) h = record { numbers = range_with_len first count; trees = λ ns i p w. listed_parts ns first count (omega arith); before = λ i p. range_below i first count p }
numbered (node.Hash first count) h = record { numbers = range_with_len first count; trees = λ ns i p w. listed_parts ns first count (omega arith); before = λ i p. range_below i first count p }
numbered (node.Pairs first count) h = record { numbers = range_with_len first count; trees = λ ns i p w. listed_parts ns first count (omega arith); before = λ i p. range_below i first count p }
numbered (node.Interpolation first count) h = record { numbers = range_with_len first count; trees = λ ns i p w. listed_parts ns first count (omega arith); before = λ i p. range_below i first count p }
numbered (node.Sequence first count) h = record { numbers = range_with_len first count; trees = λ ns i p w. listed_parts ns first count (omega arith); before = λ i p. range_below i first count p }
numbered (node.Call x first count site) h = record { numbers = range_with_len first count; trees = λ ns i p w. listed_parts ns first count (omega arith); before = λ i p. range_below i first count p }
numbered (node.Super first count) h = record { numbers = range_with_len first count; trees = λ ns i p w. listed_parts ns first count (omega arith); before = λ i p. range_below i first count p }
numbered (node.Yield first count) h = record { numbers = range_with_len first count; trees = λ ns i p w. listed_parts ns first count (omega arith); before = λ i p. range_below i first count p }
numbered (node.Send a x first count site) h = record { numbers = a ∷ range_with_len first count; trees = λ ns i p w. ap (λ l. tree_at ns a ∷ l) (listed_parts ns first count (let most = p.1 in omega arith)); before = λ i p. All-cons (λ k. k < i) a (range_with_len first count) p.0 (range_below i first count p.1) }
numbered (node.MultipleAssign first count a) h = record { numbers = a ∷ range_with_len first count; trees = λ ns i p w. ap (λ l. tree_at ns a ∷ l) (listed_parts ns first count (let most = p.0 in omega arith)); before = λ i p. All-cons (λ k. k < i) a (range_with_len first count) p.1 (range_below i first count p.0) }
numbered (node.Rescue a first count b) h = record { numbers = a ∷ b ∷ range_with_len first count; trees = λ ns i p w. ap (λ l. tree_at ns a ∷ tree_at ns b ∷ l) (listed_parts ns first count (let most = p.1 in omega arith)); before = λ i p. All-cons (λ k. k < i) a (b ∷ range_with_len first count) p.0 (All-cons (λ k. k < i) b (range_with_len first count) p.2 (range_below i first count p.1)) }
numbered (node.Clause first count a b) h = record { numbers = a ∷ b ∷ range_with_len first count; trees = λ ns i p w. ap (λ l. tree_at ns a ∷ tree_at ns b ∷ l) (listed_parts ns first count (let most = p.0 in omega arith)); before = λ i p. All-cons (λ k. k < i) a (b ∷ range_with_len first count) p.1 (All-cons (λ k. k < i) b (range_with_len first count) p.2 (range_below i first count p.0)) }
numbered _ h = record { numbers = []; trees = λ ns i p w. refl; before = λ i p. none i }

-- a part of a tree of the table is a tree before it
pub record Earlier (ns : List Node) (i : ℕ) (t : Tree) : Type 0 where
  pub at : ℕ
  pub before : at < i
  pub is : tree_at ns at ≡ t

no_part : (t : Tree) → Contains {X = Tree} [] t → ⊥
no_part t has = omega (arith, has.1)

-- of a node in the table, where it is known of the entries before it
part_within : (ns : List Node) → IsOrdered ns → (i : ℕ) → i < length ns → (t : Tree) → ((j : ℕ) → j < i → Contains (parts (tree_at ns j)) t → Earlier ns j t) → Contains (parts (tree_at ns i)) t → Earlier ns i t
part_within ns all i w t lower has =
    let n = get_or ns i node.Nil in
    let p = all i w in
    ⊎_elim
    (λ item.
    let less : item.0 < i = subst (HasPartsBefore i) item.1 p in
    let up = lower item.0 less (subst (λ u. Contains (parts u) t) (tree_is ns all i ∙ ap (node_tree ns) item.1) has) in
    record { at = up.at; before = let b = up.before in omega arith; is = up.is })
    (λ free.
    let q = numbered n free in
    let from = contained (tree_at ns) 0 q.numbers t (subst (λ (l : List Tree). Contains l t) (ap parts (tree_is ns all i) ∙ sym (q.trees ns i p (omega arith))) has) in
    record { at = from.0; before = All-contains (λ k. k < i) q.numbers from.0 (q.before i p) from.1; is = from.2 })
    (item_or n)

pub part_before : (ns : List Node) → IsOrdered ns → (d i : ℕ) → i < d → (t : Tree) → Contains (parts (tree_at ns i)) t → Earlier ns i t
part_before ns all zero i lt t has = absurd (omega arith)
part_before ns all (suc d) i lt t has = elim (nat_lt i (length ns)) as (λ b. nat_lt i (length ns) ≡ b → Earlier ns i t) [
  | true ↦ λ e. part_within ns all i (grind (arith, nat_tests)) t (λ j less in_j. part_before ns all d j (omega arith) t in_j) has
  | false ↦ λ e. let past : length ns ≤ i = grind (arith, nat_tests) in absurd (no_part t (subst (λ u. Contains (parts u) t) (tree_past ns i past) has))
] refl
