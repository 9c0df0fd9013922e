-- Reading choices and loops.
use Rattle.std.specs.Prelude.{List, Bool, false, Option, Some, None, Ok}
use Rattle.rr_tree.specs.Tree.{Tree, nil, repeat}
use Rattle.rr_parser.specs.declared.word.WordKind.TheVariants as kind
use Rattle.rr_parser.specs.Places.{Place, word, at}
use Rattle.rr_parser.specs.Grammar.Chains.{one_of, and_one}
use Rattle.rr_parser.specs.Grammar.Control.{thens, loops, elsif, chosen, unless_chosen, looping, outside_loop}
use Rattle.rr_parser.specs.Reading.Answers.{◌>>=◌, Answer, Parse, built, closed, across, taking_of, chain}
use Rattle.rr_parser.specs.Reading.Nesting.{Readers}
use Rattle.rr_parser.specs.Reading.Sequences.{expression_of, statements_of}

abbrev pub both : Tree → Tree → Tree × Tree
both c t = (c, t)

unfoldable pub branch_of : Readers → Parse (Tree × Tree)
branch_of N s = across both thens (statements_of N) (expression_of N s)

unfoldable pub branches_of : Readers → Parse (List (Tree × Tree))
branches_of N = chain elsif one_of and_one (branch_of N)

abbrev pub otherwise_or : Readers → Place → Option (Unit {0} × Place) → Answer Tree
otherwise_or N s None = Ok (nil, s)
otherwise_or N s (Some m) = statements_of N m.1

unfoldable pub otherwise_of : Readers → Parse Tree
otherwise_of N s = otherwise_or N s (at (word kind.Else) s)

-- what is done otherwise, and the word `end`
abbrev pub ended : {A : Type 0} → Readers → (A → Tree → Tree) → Answer A → Answer Tree
ended N f r = r >>= λ l. closed kind.End (built (f l.0) (otherwise_of N l.1))

unfoldable pub choice_of : Readers → Parse Tree
choice_of N s = ended N chosen (branches_of N s)

unfoldable pub unless_of : Readers → Parse Tree
unless_of N s = ended N unless_chosen (branch_of N s)

unfoldable pub loop_of : Readers → Bool → Parse Tree
loop_of N until s = closed kind.End (across (repeat until) loops (statements_of N) (taking_of false (expression_of N) s))

abbrev pub looped_of : Readers → Bool → Parse Tree
looped_of N until s = loop_of N until (looping s) >>= λ x. Ok (x.0, outside_loop s x.1)
