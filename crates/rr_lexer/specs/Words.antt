-- Reserved words and operators.
use Rattle.std.specs.Prelude.{ℕ, ◌==◌, ◌||◌, ◌&&◌, not, Bool, List, [], ◌∷◌, codes}
use Rattle.std.specs.Str.{bytes_eq}
use Rattle.std.specs.List.{list_any}
use Rattle.rr_lexer.specs.declared.kind.Keyword.{Keyword}
use Rattle.rr_lexer.specs.declared.kind.Keyword.TheVariants as keywords
use Rattle.rr_lexer.specs.declared.kind.Op.{Op}
use Rattle.rr_lexer.specs.declared.kind.Op.TheVariants as ops

abbrev pub keyword_text : Keyword → List ℕ
keyword_text keywords.And = codes "and"
keyword_text keywords.Begin = codes "begin"
keyword_text keywords.Break = codes "break"
keyword_text keywords.Class = codes "class"
keyword_text keywords.Def = codes "def"
keyword_text keywords.Do = codes "do"
keyword_text keywords.Else = codes "else"
keyword_text keywords.Elsif = codes "elsif"
keyword_text keywords.End = codes "end"
keyword_text keywords.Ensure = codes "ensure"
keyword_text keywords.False = codes "false"
keyword_text keywords.If = codes "if"
keyword_text keywords.Next = codes "next"
keyword_text keywords.Nil = codes "nil"
keyword_text keywords.Not = codes "not"
keyword_text keywords.Or = codes "or"
keyword_text keywords.Rescue = codes "rescue"
keyword_text keywords.Return = codes "return"
keyword_text keywords.SelfWord = codes "self"
keyword_text keywords.SuperWord = codes "super"
keyword_text keywords.Then = codes "then"
keyword_text keywords.True = codes "true"
keyword_text keywords.Unless = codes "unless"
keyword_text keywords.Until = codes "until"
keyword_text keywords.While = codes "while"
keyword_text keywords.Yield = codes "yield"

-- Ruby's other reserved words, which this language leaves out
abbrev pub left_out_words : List (List ℕ)
left_out_words = codes "__END__" ∷ codes "__FILE__" ∷ codes "__LINE__" ∷ codes "__ENCODING__"
    ∷ codes "BEGIN" ∷ codes "END" ∷ codes "alias" ∷ codes "case" ∷ codes "defined?" ∷ codes "for" ∷ codes "in"
    ∷ codes "module" ∷ codes "redo" ∷ codes "retry" ∷ codes "undef" ∷ codes "when" ∷ []

abbrev pub is_left_out : List ℕ → Bool
is_left_out word = list_any (bytes_eq word) left_out_words

-- These two bytes behind a word are a `?` or `!` that belongs to it: no `=` follows.
abbrev pub takes_mark : ℕ → ℕ → Bool
takes_mark b c = (b == 63 || b == 33) && not (c == 61)

-- These two bytes behind a word are the colon of a label: no other follows.
abbrev pub takes_colon : ℕ → ℕ → Bool
takes_colon b c = b == 58 && not (c == 58)

abbrev pub op_text : Op → List ℕ
op_text ops.Plus = codes "+"
op_text ops.Minus = codes "-"
op_text ops.Star = codes "*"
op_text ops.Slash = codes "/"
op_text ops.Percent = codes "%"
op_text ops.Assign = codes "="
op_text ops.Equal = codes "=="
op_text ops.Arrow = codes "=>"
op_text ops.Bang = codes "!"
op_text ops.NotEqual = codes "!="
op_text ops.Less = codes "<"
op_text ops.LessOrEqual = codes "<="
op_text ops.Shift = codes "<<"
op_text ops.ShiftAssign = codes "<<="
op_text ops.Compare = codes "<=>"
op_text ops.Greater = codes ">"
op_text ops.GreaterOrEqual = codes ">="
op_text ops.PlusAssign = codes "+="
op_text ops.MinusAssign = codes "-="
op_text ops.StarAssign = codes "*="
op_text ops.SlashAssign = codes "/="
op_text ops.PercentAssign = codes "%="
op_text ops.And = codes "&&"
op_text ops.AndAssign = codes "&&="
op_text ops.Bar = codes "|"
op_text ops.Or = codes "||"
op_text ops.OrAssign = codes "||="
op_text ops.Question = codes "?"
op_text ops.Colon = codes ":"
op_text ops.Path = codes "::"
op_text ops.Dot = codes "."
op_text ops.Comma = codes ","
op_text ops.Semicolon = codes ";"
op_text ops.Open = codes "("
op_text ops.Close = codes ")"
op_text ops.OpenSquare = codes "["
op_text ops.CloseSquare = codes "]"
