-- Choices with which methods begin, read out of the program.
use Rattle.std.proofs.Common.{◌≡◌, ◌∙◌, ℕ, ap, arith, subst, sym, ℤ, Bool, List, [], ◌∷◌, ◌++◌, Option, Some, IfSome, inl, inr, slice_get}
use Rattle.std.proofs.lemmas.Option.{slice_get_within}
use Rattle.rr_space.proofs.Hands.{append_cases}
use Rattle.rr_tree.specs.Tree.{Tree, choose}
use Rattle.rr_tree.specs.declared.node.BinaryOperator.{BinaryOperator}
use Rattle.rr_tree.specs.declared.node.Node.{Node}
use Rattle.rr_eval.specs.declared.base_cases.BaseCase.{BaseCase}
use Rattle.rr_eval.specs.declared.call_stack.Variable.{Variable as Local}
use Rattle.rr_eval.specs.declared.simple_parts.SimplePart.TheVariants.{WithInt}
use Rattle.rr_eval.specs.BaseCases.{AreBases, IsBase, base_of, listed_ending_of}
use Rattle.rr_eval.specs.SimpleParts.{simple_of}

-- a choice by a variable of the frame itself
pub base_known : (tree a b d : Tree) (op : BinaryOperator) (v : Local) (z : ℤ) (e : Bool × (Tree × ℕ)) (o : Tree) → tree ≡ choose a b d → WithInt op v z ≡ simple_of a → v.depth ≡ 0 → e ≡ listed_ending_of b → o ≡ d
    → base_of tree ≡ Some (WithInt op (record { depth = 0; slot = v.slot }) z, (e, o))
base_known tree a b d op v z e o is simple own ending other =
    ap base_of is
    ∙ ap (λ s. Some (s, (listed_ending_of b, d))) (sym simple)
    ∙ ap (λ k. Some (WithInt op (record { depth = k; slot = v.slot }) z, (listed_ending_of b, d))) own
    ∙ ap (λ q. Some (WithInt op (record { depth = 0; slot = v.slot }) z, (q, d))) (sym ending)
    ∙ ap (λ y. Some (WithInt op (record { depth = 0; slot = v.slot }) z, (e, y))) (sym other)

-- one method more
pub bases_more : (ns : List Node) (bases : List (Option BaseCase)) (o : Option BaseCase) → AreBases ns bases → IfSome o (IsBase ns) → AreBases ns (bases ++ o ∷ [])
bases_more ns bases o are is = λ x b e.
    elim (append_cases bases (o ∷ []) x (Some b) e) [
      | inl l ↦ are x b l
      | inr r ↦
          let within = slice_get_within (o ∷ []) r.0 (Some b) r.2 in
          let none : r.0 ≡ 0 = omega (arith, within) in
          let first = subst (λ j. slice_get (o ∷ []) j ≡ Some (Some b)) none r.2 in
          let same : o ≡ Some b = cc first in
          subst (λ q. IfSome q (IsBase ns)) same is
    ]
