-- Which line ends separate statements.
use Rattle.std.specs.Prelude.{◌||◌, ◌&&◌, not, Bool, true, false, List, [], ◌∷◌, if◌then◌else◌}
use Rattle.rr_lexer.specs.declared.kind.Keyword.{Keyword}
use Rattle.rr_lexer.specs.declared.kind.Keyword.TheVariants as keywords
use Rattle.rr_lexer.specs.declared.kind.Op.{Op}
use Rattle.rr_lexer.specs.declared.kind.Op.TheVariants as ops
use Rattle.rr_lexer.specs.declared.kind.Kind.{Kind}
use Rattle.rr_lexer.specs.declared.kind.Kind.TheVariants as kinds
use Rattle.rr_lexer.specs.declared.kind.Token.{Token}

abbrev pub is_line_end : Kind → Bool
is_line_end kinds.LineEnd = true
is_line_end _ = false

-- An operator, a comma or an opening bracket: all but `|`, `::`, `;`, `)` and `]`. A block's parameters end with `|`.
abbrev pub op_continues : Op → Bool
op_continues ops.Bar = false
op_continues ops.Path = false
op_continues ops.Semicolon = false
op_continues ops.Close = false
op_continues ops.CloseSquare = false
op_continues _ = true

abbrev pub keyword_continues : Keyword → Bool
keyword_continues keywords.And = true
keyword_continues keywords.Or = true
keyword_continues keywords.Not = true
keyword_continues _ = false

-- a line end behind such a token is left out
abbrev pub continues : Kind → Bool
continues (kinds.Op o) = op_continues o
continues (kinds.Keyword k) = keyword_continues k
continues kinds.OpenBrace = true
continues _ = false

abbrev pub is_def : Kind → Bool
is_def (kinds.Keyword keywords.Def) = true
is_def _ = false

abbrev pub is_name : Kind → Bool
is_name kinds.Name = true
is_name _ = false

abbrev pub is_assign : Kind → Bool
is_assign (kinds.Op ops.Assign) = true
is_assign _ = false

abbrev pub is_open_square : Kind → Bool
is_open_square (kinds.Op ops.OpenSquare) = true
is_open_square _ = false

abbrev pub is_close_square : Kind → Bool
is_close_square (kinds.Op ops.CloseSquare) = true
is_close_square _ = false

abbrev pub is_closer : Kind → Bool
is_closer kinds.CloseBrace = true
is_closer (kinds.Op ops.Close) = true
is_closer (kinds.Op ops.CloseSquare) = true
is_closer _ = false

-- `.` and a name
abbrev pub is_call : Kind → Kind → Bool
is_call (kinds.Op ops.Dot) kinds.Name = true
is_call _ _ = false

-- A line end before these tokens is left out: before another one, before a closing bracket, and before `.` and a name.
abbrev pub goes_on : List Token → Bool
goes_on [] = false
goes_on (t ∷ []) = is_line_end t.kind || is_closer t.kind
goes_on (t ∷ u ∷ ts) = is_line_end t.kind || (is_closer t.kind || is_call t.kind u.kind)

-- What tokens end with, the last one first. Directly behind another one a token has no blank before it.

abbrev pub ends_with_def : List Token → Bool
ends_with_def [] = false
ends_with_def (t ∷ front) = is_def t.kind

-- `def` and a name
abbrev pub ends_with_name : List Token → Bool
ends_with_name [] = false
ends_with_name (t ∷ front) = is_name t.kind && ends_with_def front

-- `def` and `[`
abbrev pub ends_with_open_square : List Token → Bool
ends_with_open_square [] = false
ends_with_open_square (t ∷ front) = is_open_square t.kind && ends_with_def front

-- `def`, `[` and directly behind it `]`
abbrev pub ends_with_squares : List Token → Bool
ends_with_squares [] = false
ends_with_squares (t ∷ front) = is_close_square t.kind && (not t.blank && ends_with_open_square front)

-- a token ends the name of a setter: it is `=`, directly behind `def` and a name, or `def` and `[]`
abbrev pub ends_setter : Token → List Token → Bool
ends_setter t front = is_assign t.kind && (not t.blank && (ends_with_name front || ends_with_squares front))

-- a token behind these ends the name of a method: an operator behind `def`, or a setter's
abbrev pub ends_method_name : Token → List Token → Bool
ends_method_name t front = ends_with_def front || ends_setter t front

-- A line end behind these tokens is left out. The name of a method goes on to no other line.
abbrev pub is_continued : List Token → Bool
is_continued [] = false
is_continued (t ∷ front) = continues t.kind && not (ends_method_name t front)

-- A line end is left out before these tokens, or behind those (the last one first).
abbrev pub is_dropped : List Token → Kind → List Token → Bool
is_dropped front kind rest = is_line_end kind && (is_continued front || goes_on rest)

-- A token that something stands before, also where that is a line end that is left out (gap).
abbrev pub spaced : Bool → Token → Token
spaced gap t = record t { blank = gap || t.blank }

-- The tokens without those line ends, behind the ones that are kept (the last one first).
abbrev pub joined_behind : List Token → Bool → List Token → List Token
joined_behind front gap [] = []
joined_behind front gap (t ∷ ts) = if is_dropped front t.kind ts
    then joined_behind front true ts
    else spaced gap t ∷ joined_behind (spaced gap t ∷ front) false ts

abbrev pub joined : List Token → List Token
joined tokens = joined_behind [] false tokens
