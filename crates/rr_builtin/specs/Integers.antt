-- What the methods of integers give.
use Rattle.std.specs.Prelude.{ℤ, pos, negsuc, neg_ℤ, int_lt, Bool, Result, Ok, Err, if◌then◌else◌}
use Rattle.std.specs.Ordering.{int_eq}
use Rattle.rr_builtin.specs.Floor.{floored, modulus, fits}
use Rattle.rr_builtin.specs.declared.integer.NumberProblem.{NumberProblem}
use Rattle.rr_builtin.specs.declared.integer.NumberProblem.TheVariants.{DividedByZero, OutOfRange}

-- an integer that a method gives, where it is of 64 bits
abbrev pub given : ℤ → Result ℤ NumberProblem
given z = if fits z then Ok z else Err OutOfRange

abbrev pub quotient_of : ℤ → ℤ → Result ℤ NumberProblem
quotient_of x y = if int_eq y (pos 0) then Err DividedByZero else given (floored x y)

abbrev pub remainder_of : ℤ → ℤ → Result ℤ NumberProblem
remainder_of x y = if int_eq y (pos 0) then Err DividedByZero else Ok (modulus x y)

-- the distance from 0
abbrev pub absolute_of : ℤ → Result ℤ NumberProblem
absolute_of x = if int_lt x (pos 0) then given (neg_ℤ x) else Ok x

-- -1, 0 or 1
abbrev pub order_of : ℤ → ℤ → ℤ
order_of x y = if int_lt x y then negsuc 0 else if int_eq x y then pos 0 else pos 1

-- 2 leaves nothing of an even integer
abbrev pub even : ℤ → Bool
even x = int_eq (modulus x (pos 2)) (pos 0)
