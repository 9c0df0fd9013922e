-- Reading classes.
use Rattle.std.specs.Prelude.{List, [], Option, Some, None, Ok, Err}
use Rattle.rr_base.specs.declared.name.Sym.{Sym}
use Rattle.rr_base.specs.declared.name.ClassId.{ClassId}
use Rattle.rr_tree.specs.Tree.{Tree, class_body, listed}
use Rattle.rr_parser.specs.declared.word.Access.{Access}
use Rattle.rr_parser.specs.declared.word.Part.TheVariants as parts
use Rattle.rr_parser.specs.declared.word.WordKind.TheVariants as kind
use Rattle.rr_parser.specs.Places.{Place, word, at}
use Rattle.rr_parser.specs.Grammar.Chains.{one_of, all_of, and_all}
use Rattle.rr_parser.specs.Grammar.Calls.{comma}
use Rattle.rr_parser.specs.Grammar.Classes.{access_word, symbol, attribute_methods, member_row, row_of}
use Rattle.rr_parser.specs.Reading.Answers.{◌>>=◌, wrong, Answer, Parse, built, ended_by, chain}
use Rattle.rr_parser.specs.Reading.Nesting.{Readers}

abbrev pub attribute_or : Access → Option (Sym × Place) → Answer (List Tree)
attribute_or a None = Err wrong
attribute_or a (Some x) = Ok (attribute_methods a x.0, x.1)

abbrev pub attribute_of : Access → Parse (List Tree)
attribute_of a s = attribute_or a (at symbol s)

unfoldable pub attributes_of : Access → Parse (List Tree)
attributes_of a = chain comma all_of and_all (attribute_of a)

abbrev pub definition_or : Readers → Option (Unit {0} × Place) → Answer (List Tree)
definition_or N None = Err wrong
definition_or N (Some m) = built one_of (N.part parts.Definition m.1)

abbrev pub class_member_or : Readers → Place → Option (Access × Place) → Answer (List Tree)
class_member_or N s None = definition_or N (at (word kind.Def) s)
class_member_or N s (Some x) = attributes_of x.0 x.1

unfoldable pub class_member_of : Readers → Parse (List Tree)
class_member_of N s = class_member_or N s (at access_word s)

unfoldable pub methods_of : Readers → Parse (List Tree)
methods_of N = chain member_row all_of and_all (class_member_of N)

abbrev pub inner_or : Readers → Place → Option (Unit {0} × Place) → Answer (List Tree)
inner_or N s None = Ok ([], s)
inner_or N s (Some m) = methods_of N m.1

abbrev pub inner_of : Readers → Parse (List Tree)
inner_of N s = inner_or N s (at member_row s)

-- the separators and the `end` behind what was read
abbrev pub ended : {A : Type 0} → Answer A → Answer A
ended r = r >>= λ x. ended_by x.0 (at (row_of kind.End) x.1)

unfoldable pub class_body_of : Readers → Sym → ClassId → Parse Tree
class_body_of N x c s = built (λ l. class_body x.0 c (listed l)) (ended (inner_of N s))
