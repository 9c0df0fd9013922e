-- Keys and values, taken one by one.
use Rattle.std.proofs.Common.{◌≡◌, ℕ, zero, suc, ◌+◌, ◌-◌, ◌<◌, ◌∙◌, sym, ap, arith, List, [], ◌∷◌, ◌++◌}
use Rattle.rr_space.specs.declared.refer.Ref.{Ref}
use Rattle.rr_tree.specs.Tree.{tree_at}
use Rattle.rr_tree.specs.declared.node.Node.{Node}
use Rattle.rr_tree.specs.declared.node.Node.TheVariants as nodes
use Rattle.rr_tree.specs.Nodes.{trees_before}
use Rattle.rr_eval.specs.declared.call.Callee.TheVariants.{SetIndex}
use Rattle.rr_eval.specs.declared.call.Target.TheVariants.{Do, Call}
use Rattle.rr_eval.specs.declared.call.Task.TheVariants.{MakeHash}
use Rattle.rr_eval.specs.declared.frame.Frame.TheVariants.{Key}
use Rattle.rr_eval.specs.Script.{Go}
use Rattle.rr_eval.specs.Rules.{Context, rule, values, on_value, with_value, finish, key_part, value_part, pair_parts}
use Rattle.rr_eval.specs.Nodes.{evaluated_tree}
use Rattle.rr_eval.specs.Frames.{Code, resumed}
use Rattle.rr_eval.proofs.Trees.{items_listed}

-- the key of the first of several pairs
pub pairs_from : (c : Code) (end count place key value base : ℕ) (stand : List Ref) → 0 < count → place ≡ end - count → tree_at c.nodes key ≡ key_part (tree_at c.nodes place) → tree_at c.nodes value ≡ value_part (tree_at c.nodes place)
    → Go (tree_at c.nodes key) (resumed c (Key value end (count - 1) base) stand) ≡ values (pair_parts (trees_before c.nodes end count)) stand (finish c.context (Do MakeHash))
pairs_from c end zero place key value base stand some at first second = absurd (omega arith)
pairs_from c end (suc more) place key value base stand some at first second =
    let k : suc more - 1 ≡ more = omega arith in
    ap (λ m. Go (tree_at c.nodes key) (resumed c (Key value end m base) stand)) k
    ∙ ap (λ x. Go x (resumed c (Key value end more base) stand)) (first ∙ ap (λ p. key_part (tree_at c.nodes p)) at)
    ∙ ap (λ x. Go (key_part (tree_at c.nodes (end - suc more))) (on_value (λ v. values (x ∷ pair_parts (trees_before c.nodes end more)) (stand ++ v ∷ []) (finish c.context (Do MakeHash))))) (second ∙ ap (λ p. value_part (tree_at c.nodes p)) at)

pub hash_is : (ns : List Node) (c : Context) (first count : ℕ) → values (pair_parts (trees_before ns (first + count) count)) [] (finish c (Do MakeHash)) ≡ rule c (evaluated_tree ns (nodes.Hash first count))
hash_is ns c first count = ap (λ ts. values (pair_parts ts) [] (finish c (Do MakeHash))) (sym (items_listed (trees_before ns (first + count) count)))

pub pairs_is : (ns : List Node) (c : Context) (first count : ℕ) → values (pair_parts (trees_before ns (first + count) count)) [] (finish c (Do MakeHash)) ≡ rule c (evaluated_tree ns (nodes.Pairs first count))
pairs_is ns c first count = ap (λ ts. values (pair_parts ts) [] (finish c (Do MakeHash))) (sym (items_listed (trees_before ns (first + count) count)))

-- the value that is assigned to an element is the last part before the number behind it
one_before : (ns : List Node) (d : ℕ) → trees_before ns (d + 1) 1 ≡ tree_at ns d ∷ []
one_before ns d =
    let e : d + 1 - 1 ≡ d = omega arith in
    ap (λ p. tree_at ns p ∷ []) e

pub set_index_is : (ns : List Node) (c : Context) (a b d : ℕ) → with_value (tree_at ns a) (λ v. values (tree_at ns b ∷ trees_before ns (d + 1) 1) (v ∷ []) (finish c (Call SetIndex))) ≡ rule c (evaluated_tree ns (nodes.SetIndex a b d))
set_index_is ns c a b d = ap (λ ts. with_value (tree_at ns a) (λ v. values (tree_at ns b ∷ ts) (v ∷ []) (finish c (Call SetIndex)))) (one_before ns d)
