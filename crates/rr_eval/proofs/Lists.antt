-- Statements and arguments, taken one by one.
use Rattle.std.proofs.Common.{◌≡◌, ℕ, zero, suc, ◌+◌, ◌-◌, ◌≤◌, ◌∙◌, sym, ap, refl, arith, true, List, [], ◌∷◌}
use Rattle.rr_tree.specs.Tree.{Tree, tree_at}
use Rattle.rr_tree.specs.declared.node.Node.{Node}
use Rattle.rr_tree.specs.declared.node.Node.TheVariants.{Sequence, Call, Send}
use Rattle.rr_tree.specs.declared.node.Node.TheVariants as nodes
use Rattle.rr_tree.specs.Nodes.{trees_before}
use Rattle.rr_base.specs.declared.name.Sym.{Sym}
use Rattle.rr_eval.specs.Script.{Go, See}
use Rattle.rr_eval.specs.declared.call.Callee.TheVariants as callees
use Rattle.rr_eval.specs.declared.call.Target.TheVariants.{Do, Call as CallTarget, Super, Yield}
use Rattle.rr_eval.specs.declared.call.Task.TheVariants.{MakeArray, MakeText}
use Rattle.rr_eval.specs.Rules.{Context, rule, statements, arguments, on_value, with_value, finish, printing, raises, awaited, call_rule, own_method, block_call_rule, sent_block, loops, only_own, block_rule, not_here}
use Rattle.rr_eval.specs.Rescuing.{rescue_rule}
use Rattle.rr_eval.specs.Nodes.{evaluated_tree, IsEvaluated, is_unknown}
use Rattle.rr_eval.proofs.Trees.{items_listed}

-- the first of several statements
pub statements_from : (ns : List Node) (end count place : ℕ) → 2 ≤ count → place ≡ end - count → Go (tree_at ns place) (on_value (λ v. statements (trees_before ns end (count - 1)))) ≡ statements (trees_before ns end count)
statements_from ns end zero place h e = absurd (omega arith)
statements_from ns end (suc zero) place h e = absurd (omega arith)
statements_from ns end (suc (suc more)) place h e =
    let k : suc (suc more) - 1 ≡ suc more = omega arith in
    ap (λ m. Go (tree_at ns place) (on_value (λ v. statements (trees_before ns end m)))) k
    ∙ ap (λ p. Go (tree_at ns p) (on_value (λ v. statements (trees_before ns end (suc more))))) e

pub sequence_rule : (ns : List Node) (c : Context) (first count : ℕ) → statements (trees_before ns (first + count) count) ≡ rule c (evaluated_tree ns (Sequence first count))
sequence_rule ns c first count = ap statements (sym (items_listed (trees_before ns (first + count) count)))

pub call_is : (ns : List Node) (c : Context) (x : Sym) (first count site : ℕ)
    → See (λ m. call_rule c (own_method c x.0 m) (printing c x.0) (raises c x.0) (awaited c x.0) x (trees_before ns (first + count) count)) ≡ rule c (evaluated_tree ns (Call x first count site))
call_is ns c x first count site = ap (λ ts. See (λ m. call_rule c (own_method c x.0 m) (printing c x.0) (raises c x.0) (awaited c x.0) x ts)) (sym (items_listed (trees_before ns (first + count) count)))

pub array_is : (ns : List Node) (c : Context) (first count : ℕ) → arguments c (trees_before ns (first + count) count) [] (finish c (Do MakeArray)) ≡ rule c (evaluated_tree ns (nodes.Array first count))
array_is ns c first count = ap (λ ts. arguments c ts [] (finish c (Do MakeArray))) (sym (items_listed (trees_before ns (first + count) count)))

pub interpolation_is : (ns : List Node) (c : Context) (first count : ℕ) → arguments c (trees_before ns (first + count) count) [] (finish c (Do MakeText)) ≡ rule c (evaluated_tree ns (nodes.Interpolation first count))
interpolation_is ns c first count = ap (λ ts. arguments c ts [] (finish c (Do MakeText))) (sym (items_listed (trees_before ns (first + count) count)))

pub send_is : (ns : List Node) (c : Context) (a : ℕ) (x : Sym) (first count site : ℕ)
    → with_value (tree_at ns a) (λ v. arguments c (trees_before ns (first + count) count) (v ∷ []) (finish c (CallTarget (callees.Name x)))) ≡ rule c (evaluated_tree ns (Send a x first count site))
send_is ns c a x first count site = ap (λ ts. with_value (tree_at ns a) (λ v. arguments c ts (v ∷ []) (finish c (CallTarget (callees.Name x))))) (sym (items_listed (trees_before ns (first + count) count)))

-- the values that `yield` gives
pub yield_is : (ns : List Node) (c : Context) (first count : ℕ) → arguments c (trees_before ns (first + count) count) [] (finish c Yield) ≡ rule c (evaluated_tree ns (nodes.Yield first count))
yield_is ns c first count = ap (λ ts. arguments c ts [] (finish c Yield)) (sym (items_listed (trees_before ns (first + count) count)))

-- a call with a block
pub block_call_is : (ns : List Node) (c : Context) (x : Sym) (first count site : ℕ) (b : Tree)
    → See (λ m. block_call_rule c (own_method c x.0 m) (loops c x.0) (only_own c x.0) x (trees_before ns (first + count) count) b) ≡ block_rule c (evaluated_tree ns (Call x first count site)) b
block_call_is ns c x first count site b = ap (λ ts. See (λ m. block_call_rule c (own_method c x.0 m) (loops c x.0) (only_own c x.0) x ts b)) (sym (items_listed (trees_before ns (first + count) count)))

-- the arguments of `super`
pub super_is : (ns : List Node) (c : Context) (first count : ℕ) → arguments c (trees_before ns (first + count) count) [] (finish c Super) ≡ rule c (evaluated_tree ns (nodes.Super first count))
super_is ns c first count = ap (λ ts. arguments c ts [] (finish c Super)) (sym (items_listed (trees_before ns (first + count) count)))

-- a call with a block and a receiver
pub block_send_is : (ns : List Node) (c : Context) (a : ℕ) (x : Sym) (first count site : ℕ) (b : Tree)
    → with_value (tree_at ns a) (λ v. arguments c (trees_before ns (first + count) count) (v ∷ []) (sent_block c x b)) ≡ block_rule c (evaluated_tree ns (Send a x first count site)) b
block_send_is ns c a x first count site b = ap (λ ts. with_value (tree_at ns a) (λ v. arguments c ts (v ∷ []) (sent_block c x b))) (sym (items_listed (trees_before ns (first + count) count)))

-- what takes no block yet
pub no_block_call : (ns : List Node) (c : Context) (n : Node) (b : Tree) → IsEvaluated n → ((x : Sym) (first count site : ℕ) → n ≡ Call x first count site → ⊥) → ((a : ℕ) (x : Sym) (first count site : ℕ) → n ≡ Send a x first count site → ⊥) → not_here c ≡ block_rule c (evaluated_tree ns n) b
no_block_call ns c (Call x first count site) b is other send = absurd (other x first count site refl)
no_block_call ns c (Send a x first count site) b is other send = absurd (send a x first count site refl)
no_block_call ns c (nodes.Item a) b is other send = absurd is
no_block_call ns c _ b is other send = refl

-- statements and the clauses that rescue them
pub rescue_is : (ns : List Node) (c : Context) (a first count b : ℕ)
    → Go (tree_at ns a) (rescue_rule c (trees_before ns (first + count) count) (tree_at ns b)) ≡ rule c (evaluated_tree ns (nodes.Rescue a first count b))
rescue_is ns c a first count b = ap (λ ts. Go (tree_at ns a) (rescue_rule c ts (tree_at ns b))) (sym (items_listed (trees_before ns (first + count) count)))

-- what is not evaluated yet
pub unknown_rule : (ns : List Node) (c : Context) (n : Node) → is_unknown n ≡ true → rule c (evaluated_tree ns n) ≡ not_here c
unknown_rule ns c nodes.Nil e = absurd cc
unknown_rule ns c (nodes.Truth b) e = absurd cc
unknown_rule ns c (nodes.Int z) e = absurd cc
unknown_rule ns c (nodes.Text i) e = absurd cc
unknown_rule ns c (nodes.Symbol x) e = absurd cc
unknown_rule ns c (nodes.Class k) e = absurd cc
unknown_rule ns c (nodes.Constant path) e = absurd cc
unknown_rule ns c (nodes.Array first count) e = absurd cc
unknown_rule ns c (nodes.Splat a) e = absurd cc
unknown_rule ns c (nodes.Hash first count) e = absurd cc
unknown_rule ns c (nodes.Pairs first count) e = absurd cc
unknown_rule ns c (nodes.Interpolation first count) e = absurd cc
unknown_rule ns c (nodes.Local depth slot x behind) e = absurd cc
unknown_rule ns c nodes.Itself e = absurd cc
unknown_rule ns c (nodes.Field x) e = absurd cc
unknown_rule ns c (nodes.SetField x a) e = absurd cc
unknown_rule ns c (nodes.Global x) e = absurd cc
unknown_rule ns c (nodes.SetGlobal x a) e = absurd cc
unknown_rule ns c (nodes.SetConstant x a) e = absurd cc
unknown_rule ns c (nodes.Bare x site) e = absurd cc
unknown_rule ns c (nodes.Call x first count site) e = absurd cc
unknown_rule ns c (nodes.Send a x first count site) e = absurd cc
unknown_rule ns c (nodes.WithBlock a b) e = absurd cc
unknown_rule ns c (nodes.Block scope parameters size a) e = absurd cc
unknown_rule ns c (nodes.Super first count) e = absurd cc
unknown_rule ns c nodes.ForwardingSuper e = absurd cc
unknown_rule ns c (nodes.Yield first count) e = absurd cc
unknown_rule ns c (nodes.Index a b) e = absurd cc
unknown_rule ns c (nodes.Append a b) e = absurd cc
unknown_rule ns c (nodes.SetAttribute a x b site) e = absurd cc
unknown_rule ns c (nodes.SetIndex a b d) e = absurd cc
unknown_rule ns c (nodes.And a b) e = absurd cc
unknown_rule ns c (nodes.Or a b) e = absurd cc
unknown_rule ns c (nodes.Not a) e = absurd cc
unknown_rule ns c (nodes.Negate a) e = absurd cc
unknown_rule ns c (nodes.Binary o a b) e = absurd cc
unknown_rule ns c (nodes.Assign depth slot x behind a) e = absurd cc
unknown_rule ns c (nodes.MultipleAssign first count a) e = absurd cc
unknown_rule ns c (nodes.OperatorAssign o a b) e = absurd cc
unknown_rule ns c (nodes.AppendAssign a b) e = absurd cc
unknown_rule ns c (nodes.OrAssign a b) e = absurd cc
unknown_rule ns c (nodes.AndAssign a b) e = absurd cc
unknown_rule ns c (nodes.Choose a b d) e = absurd cc
unknown_rule ns c (nodes.Loop until a b) e = absurd cc
unknown_rule ns c (nodes.Sequence first count) e = absurd cc
unknown_rule ns c (nodes.Item a) e = absurd cc
unknown_rule ns c (nodes.Break a) e = absurd cc
unknown_rule ns c (nodes.Next a) e = absurd cc
unknown_rule ns c (nodes.Return a) e = absurd cc
unknown_rule ns c (nodes.Rescue a first count b) e = absurd cc
unknown_rule ns c (nodes.Ensure a b) e = absurd cc
unknown_rule ns c _ e = refl
