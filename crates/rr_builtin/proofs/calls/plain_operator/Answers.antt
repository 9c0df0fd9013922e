use Rattle.std.proofs.Common.{◌≡◌, ◌∙◌, ℤ, [], ap, length, refl}
use Rattle.rr_base.specs.declared.name.Sym.{Sym}
use Rattle.rr_tree.specs.declared.node.BinaryOperator.{BinaryOperator}
use Rattle.rr_space.specs.Tables.{Table}
use Rattle.rr_space.specs.declared.refer.Ref.{Ref}
use Rattle.rr_space.specs.declared.refer.Ref.TheVariants as ref
use Rattle.rr_text.specs.Forms.{Names}
use Rattle.rr_text.specs.Names.{names_of}
use Rattle.rr_builtin.specs.Calls.{equality, plain_operator}
use Rattle.rr_builtin.specs.Objects.{equals}
use Rattle.rr_builtin.proofs.calls.plain_operator.Goals as goal

equality_alone : (names : Names) (op : BinaryOperator) (v a : Ref) (t : Table) → ((x : ℤ) → v ≡ ref.Int x → ⊥) → ((s : Sym) → v ≡ ref.Symbol s → ⊥) → equality op (equals t v a) ≡ plain_operator names op v a t
equality_alone names op ref.Nil a t int symbol = refl
equality_alone names op ref.False a t int symbol = refl
equality_alone names op ref.True a t int symbol = refl
equality_alone names op (ref.Int x) a t int symbol = absurd (int x refl)
equality_alone names op (ref.Symbol s) a t int symbol = absurd (symbol s refl)
equality_alone names op (ref.Class k) a t int symbol = refl
equality_alone names op (ref.Ractor r) a t int symbol = refl
equality_alone names op (ref.Local k) a t int symbol = refl
equality_alone names op (ref.Shared k n) a t int symbol = refl

pub returns-in_default-clause-act : goal.returns-in_default-clause-act
returns-in_default-clause-act c =
    c.equality.ensures.act ∙ ap (equality c.args.operator) c.is_equal.ensures
    ∙ equality_alone (names_of c.args.program.now) c.args.operator c.args.value c.args.operand c.args.space.now c.in_default.not-Int c.in_default.not-Symbol

pub returns-in-Int-clause-fit : goal.returns-in-Int-clause-fit
returns-in-Int-clause-fit c = (c.on_integer.ensures.plain (length c.args.space.now.slots) []).0
