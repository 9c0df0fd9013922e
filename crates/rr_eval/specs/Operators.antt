-- The operators of integers, which the rules have of their own, and new texts.
use Rattle.std.specs.Prelude.{ℕ, ℤ, Bool, true, false, List, length}
use Rattle.rr_space.specs.Tables.{Table}
use Rattle.rr_space.specs.declared.refer.Ref.TheVariants.{Local}
use Rattle.rr_tree.specs.declared.node.BinaryOperator.{BinaryOperator}
use Rattle.rr_builtin.specs.Acts.{with_text, with_frozen}
use Rattle.rr_builtin.specs.Numbers.{on_integers, number_answer}
use Rattle.rr_builtin.specs.declared.built.Built.{Built}
use Rattle.rr_builtin.specs.declared.method.NumberMethod.TheVariants.{Opposite}
use Rattle.rr_eval.specs.declared.problem.Problem.TheVariants.{NotHere}
use Rattle.rr_eval.specs.declared.problem.Response.{Response}
use Rattle.rr_eval.specs.declared.problem.Response.TheVariants.{Gives}
use Rattle.rr_eval.specs.Responses.{response_from}

-- what a method of an integer came to, which lacks none of them
abbrev pub settled_number : Built → Response
settled_number b = response_from NotHere b

-- an operator on two integers
abbrev pub integers : BinaryOperator → ℤ → ℤ → Response
integers op x y = settled_number (on_integers op x y)

-- unary minus
abbrev pub opposite : ℤ → Response
opposite x = settled_number (number_answer Opposite x)

-- a new text, frozen or not, gets the next number
abbrev pub with_literal : Bool → List ℕ → Table → Table
with_literal true bytes t = with_frozen bytes t
with_literal false bytes t = with_text bytes t

abbrev pub make : Bool → List ℕ → Table → Response × Table
make frozen bytes t = (Gives (Local (length t.slots)), with_literal frozen bytes t)
