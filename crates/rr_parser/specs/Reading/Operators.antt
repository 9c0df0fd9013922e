-- Reading operators between two operands, from the first operand on.
use Rattle.std.specs.Prelude.{ℕ, zero, suc, Option, Some, None, Ok}
use Rattle.rr_tree.specs.Tree.{Tree, choose}
use Rattle.rr_parser.specs.declared.word.Infix.{Infix}
use Rattle.rr_parser.specs.declared.word.Part.TheVariants as parts
use Rattle.rr_parser.specs.declared.word.WordKind.TheVariants as kind
use Rattle.rr_parser.specs.Places.{Place, word, at}
use Rattle.rr_parser.specs.Grammar.Operators.{operator, infixed, connective, joined_by}
use Rattle.rr_parser.specs.Reading.Answers.{◌>>=◌, Answer, Parse, built, from, across, chain_on}
use Rattle.rr_parser.specs.Reading.Nesting.{Readers}
use Rattle.rr_parser.specs.Reading.Operands.{minus_of}

unfoldable pub binary_on : Readers → ℕ → Tree → Parse Tree
binary_on N zero l s = Ok (l, s)
binary_on N (suc level) l s = from (binary_on N level l) (chain_on (operator (suc level)) infixed (from (minus_of N) (binary_on N level))) s

abbrev pub binary_of : Readers → ℕ → Parse Tree
binary_of N level = from (minus_of N) (binary_on N level)

abbrev pub pair_or : Readers → Tree → Place → Option (Infix × Place) → Answer Tree
pair_or N l s None = Ok (l, s)
pair_or N l s (Some o) = built (infixed o.0 l) (binary_of N 4 o.1)

unfoldable pub equality_on : Readers → Tree → Parse Tree
equality_on N l s = binary_on N 4 l s >>= λ x. pair_or N x.0 x.1 (at (operator 5) x.1)

unfoldable pub logical_on : Readers → ℕ → Tree → Parse Tree
logical_on N zero l s = equality_on N l s
logical_on N (suc level) l s = from (logical_on N level l) (chain_on (connective (suc level)) joined_by (from (minus_of N) (logical_on N level))) s

abbrev pub logical_of : Readers → ℕ → Parse Tree
logical_of N level = from (minus_of N) (logical_on N level)

abbrev pub question_or : Readers → Tree → Place → Option (Unit {0} × Place) → Answer Tree
question_or N c s None = Ok (c, s)
question_or N c s (Some q) = across (choose c) (word kind.Colon) (N.part parts.Branch) (N.part parts.Branch q.1)

unfoldable pub ternary_on : Readers → Tree → Parse Tree
ternary_on N l s = logical_on N 2 l s >>= λ c. question_or N c.0 c.1 (at (word kind.Question) c.1)

abbrev pub ternary_of : Readers → Parse Tree
ternary_of N = from (minus_of N) (ternary_on N)
