-- What is told of a block.
use Rattle.std.proofs.Common.{◌≡◌, ◌∙◌, sym, ap, subst, refl, arith, ℕ, ◌<◌, ◌≤◌, Bool, true, false, List, [], length, nat_lt}
use Rattle.std.proofs.lemmas.Bool.Decides.{nat_tests}
use Rattle.rr_tree.specs.Tree.{Tree, tree_at, IsOrdered, nil, block}
use Rattle.rr_tree.specs.declared.node.Node.{Node}
use Rattle.rr_tree.proofs.Trees.{tree_past}
use Rattle.rr_isolation.specs.Finds.{AreUses}
use Rattle.rr_isolation.specs.Names.{uses_in, names_used, outer_names, yields_in, uses_yield}
use Rattle.rr_isolation.specs.Outer.{IsBlock, UsesYield}
use Rattle.rr_isolation.proofs.Uses.{uses_are, yields_are}

-- a block stands in the table
no_block : (t : Tree) → t ≡ nil → IsBlock t → ⊥
no_block t is has = subst IsBlock is has

pub block_within : (ns : List Node) (i : ℕ) → IsBlock (tree_at ns i) → i < length ns
block_within ns i has = elim (nat_lt i (length ns)) as (λ b. nat_lt i (length ns) ≡ b → i < length ns) [
  | true ↦ λ e. grind (arith, nat_tests)
  | false ↦ λ e. let past : length ns ≤ i = grind (arith, nat_tests) in absurd (no_block (tree_at ns i) (tree_past ns i past) has)
] refl

same_truth : (a b : Bool) → (a ≡ true → b ≡ true) → (b ≡ true → a ≡ true) → a ≡ b
same_truth true true to back = refl
same_truth true false to back = sym (to refl)
same_truth false true to back = back refl
same_truth false false to back = refl

module _ (ns : List Node) (all : IsOrdered ns) (i : ℕ) where
  tree : Tree
  tree = tree_at ns i

  pub names_told : (names : List ℕ) → ((us : List (ℕ × ℕ)) → AreUses (tree_at ns i) us → names ≡ names_used us) → names ≡ outer_names (length ns) (tree_at ns i)
  names_told names tell = by_tree (tree_at ns i) refl
    where
      by_tree : (u : Tree) → tree_at ns i ≡ u → names ≡ outer_names (length ns) u
      by_tree (block scope parameters size body) e =
          let is_block : IsBlock (tree_at ns i) = subst IsBlock (sym e) tt in
          tell (uses_in (length ns) 0 (block scope parameters size body)) (subst (λ u. AreUses (tree_at ns i) (uses_in (length ns) 0 u)) e (uses_are ns all i (block_within ns i is_block) is_block))
      by_tree _ e = tell [] (λ x b. (λ has. absurd (omega (arith, has.1)), λ u. absurd (subst IsBlock e u.block)))

  pub yields_told : (yields : Bool) → (yields ≡ true → UsesYield (tree_at ns i)) → (UsesYield (tree_at ns i) → yields ≡ true) → yields ≡ uses_yield (length ns) (tree_at ns i)
  yields_told yields to back = by_tree (tree_at ns i) refl
    where
      by_tree : (u : Tree) → tree_at ns i ≡ u → yields ≡ uses_yield (length ns) u
      by_tree (block scope parameters size body) e =
          let is_block : IsBlock (tree_at ns i) = subst IsBlock (sym e) tt in
          let are = yields_are ns all i (block_within ns i is_block) is_block in
          same_truth yields _ (λ y. ap (λ u. yields_in (length ns) u) (sym e) ∙ are.1 (to y)) (λ y. back (are.0 (ap (λ u. yields_in (length ns) u) e ∙ y)))
      by_tree _ e = same_truth yields false (λ y. absurd (subst IsBlock e (to y).block)) (λ y. absurd (cc y))
