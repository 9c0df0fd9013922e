use Rattle.std.proofs.Common.{◌≡◌, ◌∙◌, ap, refl}
use Rattle.rr_tree.specs.declared.node.BinaryOperator.{BinaryOperator}
use Rattle.rr_tree.specs.declared.node.BinaryOperator.TheVariants as operator
use Rattle.rr_space.specs.Tables.{Table}
use Rattle.rr_space.specs.declared.refer.Ref.{Ref}
use Rattle.rr_builtin.specs.Acts.{Answers}
use Rattle.rr_builtin.specs.Texts.{order_outcome, text_operator}
use Rattle.rr_builtin.proofs.texts.text_operator.Goals as goal

order_alone : (op : BinaryOperator) (v a : Ref) (t : Table) → (op ≡ operator.Add → ⊥) → (op ≡ operator.Multiply → ⊥) → (op ≡ operator.Equal → ⊥) → (op ≡ operator.NotEqual → ⊥) → Answers (order_outcome op v a t) ≡ text_operator op v a t
order_alone operator.Add v a t sum product equal unequal = absurd (sum refl)
order_alone operator.Subtract v a t sum product equal unequal = refl
order_alone operator.Multiply v a t sum product equal unequal = absurd (product refl)
order_alone operator.Divide v a t sum product equal unequal = refl
order_alone operator.Remainder v a t sum product equal unequal = refl
order_alone operator.Less v a t sum product equal unequal = refl
order_alone operator.LessOrEqual v a t sum product equal unequal = refl
order_alone operator.Greater v a t sum product equal unequal = refl
order_alone operator.GreaterOrEqual v a t sum product equal unequal = refl
order_alone operator.Compare v a t sum product equal unequal = refl
order_alone operator.Equal v a t sum product equal unequal = absurd (equal refl)
order_alone operator.NotEqual v a t sum product equal unequal = absurd (unequal refl)

pub returns-in_default-clause-act : goal.returns-in_default-clause-act
returns-in_default-clause-act c =
    ap Answers c.order_outcome.ensures.is
    ∙ order_alone c.args.operator c.args.text c.args.operand c.args.space.now c.in_default.not-Add c.in_default.not-Multiply c.in_default.not-Equal c.in_default.not-NotEqual
