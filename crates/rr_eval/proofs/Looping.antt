-- A call with a block of a name that no method of the program has.
use Rattle.std.proofs.Common.{◌≡◌, ◌∙◌, ℕ, zero, suc, nat_eq, ◌+◌, refl, sym, ap, arith, Bool, true, false, ◌&&◌, if◌then◌else◌, List, [], None, Some}
use Rattle.std.proofs.lemmas.Bool.Decides.{nat_tests}
use Rattle.rr_tree.specs.Tree.{Tree}
use Rattle.rr_tree.specs.Nodes.{trees_before}
use Rattle.rr_tree.specs.declared.node.Node.{Node}
use Rattle.rr_base.specs.declared.name.Sym.{Sym}
use Rattle.rr_eval.specs.declared.iterating.Visits.TheVariants.{Forever}
use Rattle.rr_eval.specs.Iterating.{continued}
use Rattle.rr_eval.specs.Rules.{Context, arguments, block_call_rule, not_here, self_rule}

pub looped : (ns : List Node) (c : Context) (loop own : Bool) (x : Sym) (first count : ℕ) (b : Tree) → nat_eq count 0 && loop ≡ true
    → block_call_rule c None loop own x (trees_before ns (first + count) count) b ≡ continued c (record { visits = Forever; stand = []; block = b })
looped ns c true own x first zero b is = refl
looped ns c false own x first zero b is = absurd (cc is)
looped ns c loop own x first (suc more) b is =
    let e : nat_eq (suc more) 0 ≡ false = grind (arith, nat_tests) in
    let f = sym is ∙ ap (λ k. k && loop) e in
    absurd (cc f)

pub not_looped : (ns : List Node) (c : Context) (loop own : Bool) (x : Sym) (first count : ℕ) (b : Tree) → nat_eq count 0 && loop ≡ false
    → block_call_rule c None loop own x (trees_before ns (first + count) count) b ≡ (if own then not_here c else arguments c (trees_before ns (first + count) count) [] (self_rule c x (Some b)))
not_looped ns c true own x first zero b is = absurd (cc is)
not_looped ns c false own x first count b is = refl
not_looped ns c true own x first (suc more) b is = refl
