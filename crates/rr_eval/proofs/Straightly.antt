-- Statements that assign the value of one part to a local variable, one behind the other.
use Rattle.std.proofs.Common.{◌≡◌, List, [], ◌∷◌, ◌++◌, Some, arith, subst, slice_get, inl, inr}
use Rattle.std.proofs.lemmas.Option.{slice_get_within}
use Rattle.rr_space.proofs.Hands.{append_cases}
use Rattle.rr_tree.specs.declared.node.Node.{Node}
use Rattle.rr_eval.specs.declared.straight.Straight.{Straight}
use Rattle.rr_eval.specs.Straight.{AreStraight, IsStraight}

-- one statement more
pub straight_more : (ns : List Node) (statements : List Straight) (s : Straight) → AreStraight ns statements → IsStraight ns s → AreStraight ns (statements ++ s ∷ [])
straight_more ns statements s are is = λ x f e.
    elim (append_cases statements (s ∷ []) x f e) [
      | inl l ↦ are x f l
      | inr r ↦
          let within = slice_get_within (s ∷ []) r.0 f r.2 in
          let none : r.0 ≡ 0 = omega (arith, within) in
          let first = subst (λ j. slice_get (s ∷ []) j ≡ Some f) none r.2 in
          let same : s ≡ f = cc first in
          subst (IsStraight ns) same is
    ]
