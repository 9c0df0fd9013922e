-- Whether a program has classes.
use Rattle.std.specs.Prelude.{Bool, true, false, List, [], ◌∷◌, if◌then◌else◌}
use Rattle.rr_parser.specs.declared.word.Word.{Word}
use Rattle.rr_parser.specs.Opened.{is_class}

-- whether the word `class` stands among the words
abbrev pub has_class : List Word → Bool
has_class [] = false
has_class (w ∷ ws) = if is_class w.kind then true else has_class ws
