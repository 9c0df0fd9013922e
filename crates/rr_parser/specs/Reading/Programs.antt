-- Reading programs.
use Rattle.std.specs.Prelude.{[], Option, Some, None, Ok, Err, if◌then◌else◌}
use Rattle.rr_base.specs.declared.name.ClassId.{ClassId}
use Rattle.rr_base.specs.declared.name.Sym.{Sym}
use Rattle.rr_tree.specs.declared.node.Path.{Path}
use Rattle.rr_parser.specs.declared.word.Opening.{Opening}
use Rattle.rr_parser.specs.declared.word.Opening.TheVariants as openings
use Rattle.rr_parser.specs.declared.word.Part.TheVariants as parts
use Rattle.rr_parser.specs.declared.word.WordKind.TheVariants as kind
use Rattle.rr_parser.specs.Places.{Place, word, at, skip}
use Rattle.rr_parser.specs.Grammar.Classes.{class_word, class_head}
use Rattle.rr_parser.specs.Grammar.Programs.{Entry, defines, does, Outline, with_entry, first_entry}
use Rattle.rr_parser.specs.Reading.Answers.{◌>>=◌, wrong, Answer, Parse, built, chain}
use Rattle.rr_parser.specs.Reading.Nesting.{Readers}
use Rattle.rr_parser.specs.Reading.Sequences.{statement_of, ends, row}

-- the head of a class is wrong
abbrev pub no_class : Answer Entry
no_class = Err wrong

abbrev pub class_on : Readers → ClassId → Option ((Sym × Option Path) × Place) → Answer Entry
class_on N c None = no_class
class_on N c (Some n) = built defines (N.part (parts.Class n.0.0 c) n.1)

abbrev pub class_under : Readers → Opening → Place → Answer Entry
class_under N (openings.Below c) m = class_on N c (at class_head m)
class_under N openings.Unknown m = no_class
class_under N openings.Closed m = no_class

abbrev pub class_or : Readers → Place → Option (Opening × Place) → Answer Entry
class_or N s None = built does (statement_of N s)
class_or N s (Some m) = class_under N m.0 m.1

abbrev pub entry_or : Readers → Place → Option (Unit {0} × Place) → Answer Entry
entry_or N s None = class_or N s (at class_word s)
entry_or N s (Some m) = built defines (N.part parts.Definition m.1)

unfoldable pub entry_of : Readers → Parse Entry
entry_of N s = entry_or N s (at (word kind.Def) s)

unfoldable pub entries_of : Readers → Parse Outline
entries_of N = chain row first_entry with_entry (entry_of N)

-- what was read, and the separators behind it
abbrev pub outlined : Answer Outline → Answer Outline
outlined r = r >>= λ x. Ok (x.0, skip x.1)

abbrev pub outline_at : Readers → Place → Answer Outline
outline_at N s = if ends s.rest then Ok (([], []), s) else outlined (entries_of N s)

unfoldable pub outline_of : Readers → Parse Outline
outline_of N s = outline_at N (skip s)
