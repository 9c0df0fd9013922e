-- Reading statements with the clauses that rescue them, and with those that always follow.
use Rattle.std.specs.Prelude.{Bool, List, [], Option, Some, None, Ok, Err}
use Rattle.rr_tree.specs.declared.node.Path.{Path}
use Rattle.rr_tree.specs.Tree.{Tree, constant, rescue, clause, ensure, listed}
use Rattle.rr_parser.specs.declared.word.Caught.{Caught}
use Rattle.rr_parser.specs.declared.word.Fence.{Fence}
use Rattle.rr_parser.specs.declared.word.Fence.TheVariants as fences
use Rattle.rr_parser.specs.declared.word.WordKind.TheVariants as kind
use Rattle.rr_parser.specs.Places.{Place, word, at}
use Rattle.rr_parser.specs.Grammar.Chains.{one_of, and_one}
use Rattle.rr_parser.specs.Grammar.Calls.{comma}
use Rattle.rr_parser.specs.Grammar.Bodies.{path, caught, with_caught, caught_tree, rescues, loop_word}
use Rattle.rr_parser.specs.Reading.Answers.{◌>>=◌, wrong, Answer, Parse, built, closed, from, chain}
use Rattle.rr_parser.specs.Reading.Nesting.{Readers}
use Rattle.rr_parser.specs.Reading.Sequences.{statements_of}
use Rattle.rr_parser.specs.Reading.Control.{otherwise_of}

abbrev pub class_or : Option (Path × Place) → Answer Tree
class_or None = Err wrong
class_or (Some x) = Ok (constant x.0, x.1)

abbrev pub class_of : Parse Tree
class_of s = class_or (at path s)

unfoldable pub several_classes : Parse (List Tree)
several_classes = chain comma one_of and_one class_of

abbrev pub classes_or : Place → Option (Path × Place) → Answer (List Tree)
classes_or s None = Ok ([], s)
classes_or s (Some x) = several_classes s

abbrev pub classes_of : Parse (List Tree)
classes_of s = classes_or s (at path s)

abbrev pub clause_or : Readers → List Tree → Option (Option Caught × Place) → Answer Tree
clause_or N l None = Err wrong
clause_or N l (Some x) = built (clause (listed l) (caught_tree x.0 (with_caught x.0 x.1))) (statements_of N (with_caught x.0 x.1))

abbrev pub clause_on : Readers → List Tree → Parse Tree
clause_on N l s = clause_or N l (at caught s)

unfoldable pub clause_of : Readers → Parse Tree
clause_of N = from classes_of (clause_on N)

unfoldable pub clauses_of : Readers → Parse (List Tree)
clauses_of N = chain rescues one_of and_one (clause_of N)

abbrev pub rescued_or : Readers → Tree → Place → Option (Unit {0} × Place) → Answer Tree
rescued_or N t s None = Ok (t, s)
rescued_or N t s (Some m) = clauses_of N m.1 >>= λ l. built (rescue t (listed l.0)) (otherwise_of N l.1)

abbrev pub rescued_on : Readers → Tree → Parse Tree
rescued_on N t s = rescued_or N t s (at (word kind.Rescue) s)

unfoldable pub rescued_of : Readers → Parse Tree
rescued_of N = from (statements_of N) (rescued_on N)

abbrev pub ensured_or : Readers → Tree → Place → Option (Unit {0} × Place) → Answer Tree
ensured_or N t s None = Ok (t, s)
ensured_or N t s (Some m) = built (ensure t) (statements_of N m.1)

abbrev pub ensured_on : Readers → Tree → Parse Tree
ensured_on N t s = ensured_or N t s (at (word kind.Ensure) s)

unfoldable pub body_of : Readers → Parse Tree
body_of N = from (rescued_of N) (ensured_on N)

abbrev pub unlooped : Tree → Place → Option (Bool × Place) → Answer Tree
unlooped t s None = Ok (t, s)
unlooped t s (Some x) = Err wrong

abbrev pub ended_body : Readers → Parse Tree
ended_body N s = closed kind.End (body_of N s)

abbrev pub unlooped_on : Tree → Parse Tree
unlooped_on t s = unlooped t s (at loop_word s)

unfoldable pub begun_of : Readers → Parse Tree
begun_of N = from (ended_body N) unlooped_on

abbrev pub held_of : Readers → Fence → Parse Tree
held_of N fences.Brace = statements_of N
held_of N fences.Do = body_of N
