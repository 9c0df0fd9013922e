-- Reading text literals with parts that are evaluated.
use Rattle.std.specs.Prelude.{ℕ, List, [], ◌∷◌, ◌++◌, Option, Some, None, Ok, Err}
use Rattle.rr_tree.specs.Tree.{Tree, text, interpolation, listed}
use Rattle.rr_parser.specs.Places.{Place, at}
use Rattle.rr_parser.specs.Grammar.Interpolations.{text_middle, text_tail, first_piece, and_piece}
use Rattle.rr_parser.specs.Reading.Answers.{wrong, Answer, Parse, from, chain}
use Rattle.rr_parser.specs.Reading.Nesting.{Readers}
use Rattle.rr_parser.specs.Reading.Sequences.{statements_of}

unfoldable pub pieces_of : Readers → ℕ → Parse (List Tree)
pieces_of N i = chain text_middle (first_piece i) and_piece (statements_of N)

abbrev pub interpolated_or : List Tree → Option (ℕ × Place) → Answer Tree
interpolated_or l None = Err wrong
interpolated_or l (Some x) = Ok (interpolation (listed (l ++ text x.0 ∷ [])), x.1)

abbrev pub interpolated_on : List Tree → Parse Tree
interpolated_on l s = interpolated_or l (at text_tail s)

unfoldable pub interpolation_of : Readers → ℕ → Parse Tree
interpolation_of N i = from (pieces_of N i) interpolated_on
