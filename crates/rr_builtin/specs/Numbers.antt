-- The methods of integers, as calls of them come out.
use Rattle.std.specs.Prelude.{◌+ℤ◌, ◌-ℤ◌, ◌*ℤ◌, neg_ℤ, pos, ℤ, int_lt, int_le, not, Result, Ok, Err}
use Rattle.std.specs.Ordering.{int_eq}
use Rattle.rr_base.specs.declared.name.ClassId.{ClassId}
use Rattle.rr_base.specs.declared.name.TheConstants.ClassId.{INTEGER}
use Rattle.rr_space.specs.Tables.{Table}
use Rattle.rr_space.specs.Kinds.{class_at}
use Rattle.rr_space.specs.Parts.{truth_ref}
use Rattle.rr_space.specs.declared.refer.Ref.{Ref}
use Rattle.rr_space.specs.declared.refer.Ref.TheVariants.{Nil, False, True, Int}
use Rattle.rr_tree.specs.declared.node.BinaryOperator.{BinaryOperator}
use Rattle.rr_tree.specs.declared.node.BinaryOperator.TheVariants.{Add, Subtract, Multiply, Divide, Remainder, Less, LessOrEqual, Greater, GreaterOrEqual, Compare, Equal, NotEqual}
use Rattle.rr_builtin.specs.declared.integer.NumberProblem.{NumberProblem}
use Rattle.rr_builtin.specs.declared.integer.NumberProblem.TheVariants as number
use Rattle.rr_builtin.specs.declared.problem.Problem.TheVariants.{DividedByZero, OutOfRange, Incomparable, WrongType}
use Rattle.rr_builtin.specs.declared.method.NumberMethod.{NumberMethod}
use Rattle.rr_builtin.specs.declared.method.NumberMethod.TheVariants.{Opposite, Absolute, IsEven, IsOdd, IsZero}
use Rattle.rr_builtin.specs.declared.built.Built.{Built}
use Rattle.rr_builtin.specs.declared.built.Built.TheVariants.{Value, Raised}
use Rattle.rr_builtin.specs.Integers.{given, quotient_of, remainder_of, absolute_of, order_of, even}

-- an integer, or why there is none
abbrev pub number_given : Result ℤ NumberProblem → Built
number_given (Ok z) = Value (Int z)
number_given (Err number.DividedByZero) = Raised DividedByZero
number_given (Err number.OutOfRange) = Raised OutOfRange

-- an operator on two integers
abbrev pub on_integers : BinaryOperator → ℤ → ℤ → Built
on_integers Add x y = number_given (given (x +ℤ y))
on_integers Subtract x y = number_given (given (x -ℤ y))
on_integers Multiply x y = number_given (given (x *ℤ y))
on_integers Divide x y = number_given (quotient_of x y)
on_integers Remainder x y = number_given (remainder_of x y)
on_integers Less x y = Value (truth_ref (int_lt x y))
on_integers LessOrEqual x y = Value (truth_ref (int_le x y))
on_integers Greater x y = Value (truth_ref (int_lt y x))
on_integers GreaterOrEqual x y = Value (truth_ref (int_le y x))
on_integers Compare x y = Value (Int (order_of x y))
on_integers Equal x y = Value (truth_ref (int_eq x y))
on_integers NotEqual x y = Value (truth_ref (not (int_eq x y)))

-- an operator on an integer and an operand of another class
abbrev pub on_other : BinaryOperator → ClassId → Built
on_other Equal c = Value False
on_other NotEqual c = Value True
on_other Compare c = Value Nil
on_other Less c = Raised (Incomparable INTEGER c)
on_other LessOrEqual c = Raised (Incomparable INTEGER c)
on_other Greater c = Raised (Incomparable INTEGER c)
on_other GreaterOrEqual c = Raised (Incomparable INTEGER c)
on_other Add c = Raised (WrongType c)
on_other Subtract c = Raised (WrongType c)
on_other Multiply c = Raised (WrongType c)
on_other Divide c = Raised (WrongType c)
on_other Remainder c = Raised (WrongType c)

-- an operator on an integer
abbrev pub on_integer : BinaryOperator → ℤ → Ref → Table → Built
on_integer op x (Int y) t = on_integers op x y
on_integer op x w t = on_other op (class_at t w)

abbrev pub number_answer : NumberMethod → ℤ → Built
number_answer Opposite x = number_given (given (neg_ℤ x))
number_answer Absolute x = number_given (absolute_of x)
number_answer IsEven x = Value (truth_ref (even x))
number_answer IsOdd x = Value (truth_ref (not (even x)))
number_answer IsZero x = Value (truth_ref (int_eq x (pos 0)))
