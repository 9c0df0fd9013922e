-- Reading expressions and statements.
use Rattle.std.specs.Prelude.{List, [], ◌∷◌, Bool, true, false, Option, Some, None, Ok, if◌then◌else◌, ◌||◌, is_some}
use Rattle.rr_tree.specs.Tree.{Tree, sequence, logical_not, listed}
use Rattle.rr_parser.specs.declared.word.Modifier.{Modifier}
use Rattle.rr_parser.specs.declared.word.Part.TheVariants as parts
use Rattle.rr_parser.specs.declared.word.WordKind.{WordKind}
use Rattle.rr_parser.specs.declared.word.WordKind.TheVariants as kind
use Rattle.rr_parser.specs.declared.word.Word.{Word}
use Rattle.rr_parser.specs.Places.{Place, Look, unless, word, at, skip, separators, Known}
use Rattle.rr_parser.specs.Grammar.Chains.{one_of, and_one}
use Rattle.rr_parser.specs.Grammar.Operators.{connective, joined_by}
use Rattle.rr_parser.specs.Grammar.Names.{command}
use Rattle.rr_parser.specs.Grammar.Operands.{Spot, Reached}
use Rattle.rr_parser.specs.Grammar.Calls.{comma}
use Rattle.rr_parser.specs.Grammar.Several.{several}
use Rattle.rr_parser.specs.Grammar.Sequences.{modifier, modified}
use Rattle.rr_parser.specs.Reading.Answers.{◌>>=◌, Answer, Parse, built, closed, from, trail_on, chain, chain_on}
use Rattle.rr_parser.specs.Reading.Nesting.{Readers}
use Rattle.rr_parser.specs.Reading.Operands.{postfix_of}
use Rattle.rr_parser.specs.Reading.Calls.{is_prefixed, value_of, order_on}
use Rattle.rr_parser.specs.Reading.Several.{several_on, several_of}

abbrev pub negation_or : Readers → Place → Option (Unit {0} × Place) → Answer Tree
negation_or N s None = value_of N true s
negation_or N s (Some m) = built logical_not (N.part parts.Not m.1)

unfoldable pub negation_of : Readers → Parse Tree
negation_of N s = negation_or N s (at (word kind.NotWord) s)

-- an expression from behind what has come of it
unfoldable pub connected_on : Readers → Tree → Parse Tree
connected_on N = chain_on (connective 3) joined_by (negation_of N)

unfoldable pub expression_of : Readers → Parse Tree
expression_of N = from (negation_of N) (connected_on N)

-- an expression from behind its first operand
unfoldable pub expression_on : Readers → Reached → Parse Tree
expression_on N r = from (order_on N r) (connected_on N)

abbrev pub spotted_or : Readers → Reached → Place → Option Spot → Option (Unit {0} × Place) → Answer Tree
spotted_or N r m None o = expression_on N r m
spotted_or N r m (Some p) None = expression_on N r m
spotted_or N r m (Some p) (Some n) = several_on N r.tree n.1

-- What stands behind the first operand of a statement. Where it is an element or an attribute, a comma makes it a target.
unfoldable pub spotted_on : Readers → Reached → Parse Tree
spotted_on N r m = spotted_or N r m r.spot (at comma m)

-- no operand begins: `not` comes, a command, a target and a sign, or a word that stands before an operand
abbrev pub is_led : Known → List Word → Bool
is_led known ws = is_some (word kind.NotWord ws) || is_some (command known ws) || is_prefixed ws

abbrev pub simple_at : Readers → Bool → Parse Tree
simple_at N true = expression_of N
simple_at N false = from (postfix_of N) (spotted_on N)

abbrev pub simple_or : Readers → Place → Option (Unit {0} × Place) → Answer Tree
simple_or N s None = simple_at N (is_led s.known s.rest) s
simple_or N s (Some x) = several_of N s

-- an assignment to several targets, or an expression
unfoldable pub simple_of : Readers → Parse Tree
simple_of N s = simple_or N s (at several s)

-- what is done, with the condition behind a modifier
abbrev pub modifying_of : Readers → Modifier → Tree → Parse Tree
modifying_of N x l s = built (modified x l) (expression_of N s)

unfoldable pub statement_of : Readers → Parse Tree
statement_of N = from (simple_of N) (trail_on modifier (modifying_of N))

-- what ends a list of statements comes
abbrev pub ends_at : WordKind → Bool
ends_at kind.Close = true
ends_at kind.CloseBrace = true
ends_at (kind.TextMiddle i) = true
ends_at (kind.TextTail i) = true
ends_at kind.Elsif = true
ends_at kind.Else = true
ends_at kind.Rescue = true
ends_at kind.Ensure = true
ends_at kind.End = true
ends_at _ = false

abbrev pub ends : List Word → Bool
ends [] = true
ends (w ∷ ws) = ends_at w.kind

abbrev pub before_row : Option (Unit {0} × List Word) → Option (Unit {0} × List Word)
before_row None = None
before_row (Some x) = unless (ends x.1) (Some x)

-- separators, where a statement comes behind them
abbrev pub row : Look (Unit {0})
row ws = before_row (separators ws)

unfoldable pub rows_of : Readers → Parse (List Tree)
rows_of N = chain row one_of and_one (statement_of N)

abbrev pub sequence_of : Answer (List Tree) → Answer Tree
sequence_of r = r >>= λ x. Ok (sequence (listed x.0), skip x.1)

abbrev pub statements_at : Readers → Place → Answer Tree
statements_at N s = if ends s.rest then Ok (sequence (listed []), s) else sequence_of (rows_of N s)

unfoldable pub statements_of : Readers → Parse Tree
statements_of N s = statements_at N (skip s)

unfoldable pub group_of : Readers → Parse Tree
group_of N s = closed kind.Close (statements_of N s)
