-- Operators on what are not integers are calls.
use Rattle.std.proofs.Common.{◌≡◌, refl, ℤ, [], ◌∷◌, None}
use Rattle.rr_space.specs.declared.refer.Ref.{Ref}
use Rattle.rr_space.specs.declared.refer.Ref.TheVariants as refs
use Rattle.rr_tree.specs.declared.node.BinaryOperator.{BinaryOperator}
use Rattle.rr_eval.specs.declared.call.Callee.TheVariants as callees
use Rattle.rr_eval.specs.Context.{Context}
use Rattle.rr_eval.specs.Dispatch.{send_rule, operation, negation}

pub negated_else : (c : Context) (v : Ref) → ((z : ℤ) → v ≡ refs.Int z → ⊥) → negation c v ≡ send_rule c callees.Opposite None v []
negated_else c (refs.Int z) other = absurd (other z refl)
negated_else c _ other = refl

pub operated_else : (c : Context) (op : BinaryOperator) (v w : Ref) → ((x y : ℤ) → v ≡ refs.Int x → w ≡ refs.Int y → ⊥) → operation c op v w ≡ send_rule c (callees.Operator op) None v (w ∷ [])
operated_else c op (refs.Int x) (refs.Int y) other = absurd (other x y refl refl)
operated_else c op _ _ other = refl
