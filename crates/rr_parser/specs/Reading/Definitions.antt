-- Reading definitions.
use Rattle.std.specs.Prelude.{List, Option, Some, None, Ok, Err}
use Rattle.rr_base.specs.declared.name.Sym.{Sym}
use Rattle.rr_tree.specs.Tree.{Tree}
use Rattle.rr_parser.specs.declared.word.WordKind.TheVariants as kind
use Rattle.rr_parser.specs.Places.{Place, at}
use Rattle.rr_parser.specs.Grammar.Definitions.{method_name, formals, defined, rejoining, method_tree}
use Rattle.rr_parser.specs.Reading.Answers.{◌>>=◌, wrong, Answer, Parse, closed}
use Rattle.rr_parser.specs.Reading.Nesting.{Readers}
use Rattle.rr_parser.specs.Reading.Bodies.{body_of}

-- the method that has this name, these parameters and this body
abbrev pub left_method : Place → Sym → List Sym → Place → Answer Tree → Answer Tree
left_method s x xs n r = r >>= λ t. Ok (method_tree x xs n t.1 t.0, rejoining s t.1)

abbrev pub method_or : Readers → Place → Sym → Option (List Sym × Place) → Answer Tree
method_or N s x None = Err wrong
method_or N s x (Some n) = left_method s x n.0 n.1 (closed kind.End (body_of N (defined n.0 n.1)))

abbrev pub definition_or : Readers → Place → Option (Sym × Place) → Answer Tree
definition_or N s None = Err wrong
definition_or N s (Some m) = method_or N s m.0 (at formals m.1)

unfoldable pub definition_of : Readers → Parse Tree
definition_of N s = definition_or N s (at method_name s)
