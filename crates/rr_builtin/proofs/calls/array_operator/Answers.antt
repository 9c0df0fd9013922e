use Rattle.std.proofs.Common.{◌≡◌, ◌∙◌, refl}
use Rattle.rr_space.specs.Tables.{Table, Below}
use Rattle.rr_space.specs.declared.refer.Ref.{Ref}
use Rattle.rr_tree.specs.declared.node.BinaryOperator.{BinaryOperator}
use Rattle.rr_tree.specs.declared.node.BinaryOperator.TheVariants as operator
use Rattle.rr_builtin.specs.Calls.{array_operator, container_operator}
use Rattle.rr_builtin.proofs.Among.{on_if_ok}
use Rattle.rr_builtin.proofs.calls.array_operator.Goals as goal

no_sum : (below : Below) (op : BinaryOperator) (v a : Ref) (t : Table) → (op ≡ operator.Add → ⊥) → container_operator below op v a t ≡ array_operator below op v a t
no_sum below operator.Add v a t out = absurd (out refl)
no_sum below operator.Subtract v a t out = refl
no_sum below operator.Multiply v a t out = refl
no_sum below operator.Divide v a t out = refl
no_sum below operator.Remainder v a t out = refl
no_sum below operator.Less v a t out = refl
no_sum below operator.LessOrEqual v a t out = refl
no_sum below operator.Greater v a t out = refl
no_sum below operator.GreaterOrEqual v a t out = refl
no_sum below operator.Compare v a t out = refl
no_sum below operator.Equal v a t out = refl
no_sum below operator.NotEqual v a t out = refl

pub returns-in_default-clause-act : goal.returns-in_default-clause-act
returns-in_default-clause-act c =
    on_if_ok _ _ c.container_operator.result c.container_operator.ensures.act (λ d h below read value operand. h below read value operand ∙ no_sum below c.args.operator c.args.value c.args.operand c.args.space.now c.in_default.not-Add)

pub returns-in_default-clause-among : goal.returns-in_default-clause-among
returns-in_default-clause-among c =
    on_if_ok _ _ c.container_operator.result c.container_operator.ensures.among (λ d h below read value operand. h below)
