-- The sum of the elements of an array.
use Rattle.std.specs.Prelude.{ℕ, ℤ, pos, ◌+ℤ◌, ◌≤ℤ◌, ◌*◌, ◌^◌, List, [], ◌∷◌, Option, Some, None, Result, Ok, Err}
use Rattle.rr_space.specs.Graph.{Value, Plain, At, Integer}
use Rattle.rr_space.specs.Tables.{Table, Below}
use Rattle.rr_space.specs.declared.refer.Ref.{Ref}
use Rattle.rr_builtin.specs.declared.problem.Problem.TheVariants.{WrongType}
use Rattle.rr_builtin.specs.Integers.{given}
use Rattle.rr_builtin.specs.Numbers.{number_given}
use Rattle.rr_builtin.specs.Acts.{Act, Answers, Raises, outcome_of}
use Rattle.rr_builtin.specs.Elements.{elements_of, each_as}
use Rattle.rr_builtin.specs.ValueClasses.{class_of_value}

-- the integer that a value is
abbrev pub integer_of : Value → Option ℤ
integer_of (Plain (Integer z)) = Some z
integer_of (Plain _) = None
integer_of (At n) = None

-- values as integers, or the first of them that is none
abbrev pub integers_of : List Value → Result (List ℤ) Value
integers_of xs = each_as integer_of xs

abbrev pub total : List ℤ → ℤ
total [] = pos 0
total (z ∷ zs) = z +ℤ total zs

abbrev pub totalled : Result (List ℤ) Value → Result ℤ Value
totalled (Ok zs) = Ok (total zs)
totalled (Err x) = Err x

-- so many integers of 64 bits may add up to it
abbrev pub IsSumOfSoMany : ℕ → ℤ → Type 0
IsSumOfSoMany n z = (pos 0 ≤ℤ (z +ℤ pos (2 ^ 63 * n))) × (z ≤ℤ pos (2 ^ 63 * n))

-- the sum where all are integers; it has to be of 64 bits
abbrev pub summed : Below → Table → Result ℤ Value → Act
summed below t (Ok z) = Answers (outcome_of (number_given (given z)))
summed below t (Err x) = Answers (Raises (WrongType (class_of_value below t x)))

abbrev pub sum_act : Below → Ref → Table → Act
sum_act below v t = summed below t (totalled (integers_of (elements_of t v)))
