-- Words from tokens, with names and texts by number.
use Rattle.std.specs.Prelude.{ℕ, ◌-◌, ◌==◌, ◌||◌, Bool, List, [], ◌∷◌, ◌++◌, map, true, false, Option, Some, None, length, fold, bytes_eq, slice_index, codes, if◌then◌else◌}
use Rattle.std.specs.List.{list_any, position_or_len}
use Rattle.rr_base.specs.ClassNames.{class_named}
use Rattle.rr_base.specs.declared.name.Sym.{Sym}
use Rattle.rr_base.specs.declared.class.BuiltInClass.{BuiltInClass}
use Rattle.rr_base.specs.declared.class.BuiltInClass.TheVariants as built_in
use Rattle.rr_lexer.specs.declared.kind.Kind.{Kind}
use Rattle.rr_lexer.specs.declared.kind.Kind.TheVariants as kinds
use Rattle.rr_lexer.specs.declared.kind.Keyword.{Keyword}
use Rattle.rr_lexer.specs.declared.kind.Keyword.TheVariants as keywords
use Rattle.rr_lexer.specs.declared.kind.Op.{Op}
use Rattle.rr_lexer.specs.declared.kind.Op.TheVariants as ops
use Rattle.rr_lexer.specs.declared.kind.Token.{Token}
use Rattle.rr_lexer.specs.Contents.{word_of, name_of, int_value_of, contents_of}
use Rattle.rr_lexer.specs.Lines.{is_def}
use Rattle.rr_tree.specs.declared.class.Class.{Class}
use Rattle.rr_tree.specs.declared.node.BinaryOperator.TheVariants as op
use Rattle.rr_parser.specs.declared.word.Access.{Access}
use Rattle.rr_parser.specs.declared.word.Access.TheVariants as accesses
use Rattle.rr_parser.specs.declared.word.Connective.TheVariants as connectives
use Rattle.rr_parser.specs.declared.word.Infix.TheVariants as infixes
use Rattle.rr_parser.specs.declared.word.Jump.TheVariants as jumps
use Rattle.rr_parser.specs.declared.word.NameKind.{NameKind}
use Rattle.rr_parser.specs.declared.word.NameKind.TheVariants as name_kinds
use Rattle.rr_parser.specs.declared.word.Naming.{Naming}
use Rattle.rr_parser.specs.declared.word.Naming.TheVariants as namings
use Rattle.rr_parser.specs.declared.word.Opening.TheVariants as openings
use Rattle.rr_parser.specs.declared.word.Operation.TheVariants as operations
use Rattle.rr_parser.specs.declared.word.Passing.TheVariants as passings
use Rattle.rr_parser.specs.declared.word.Sign.TheVariants as signs
use Rattle.rr_parser.specs.declared.word.WordKind.{WordKind}
use Rattle.rr_parser.specs.declared.word.WordKind.TheVariants as kind
use Rattle.rr_parser.specs.declared.word.Word.{Word}
use Rattle.rr_parser.specs.declared.method_names.MethodName.{MethodName}
use Rattle.rr_parser.specs.MethodNames.{method_name_at}
use Rattle.rr_parser.specs.Opened.{with_classes, heads_in, classes_by, opened_words, class_of_entry}

abbrev pub keyword_kind : Keyword → WordKind
keyword_kind keywords.Nil = kind.Nil
keyword_kind keywords.True = kind.Truth true
keyword_kind keywords.False = kind.Truth false
keyword_kind keywords.SelfWord = kind.Itself
keyword_kind keywords.Begin = kind.Begin
keyword_kind keywords.If = kind.If
keyword_kind keywords.Unless = kind.Unless
keyword_kind keywords.While = kind.Loop false
keyword_kind keywords.Until = kind.Loop true
keyword_kind keywords.Do = kind.Do
keyword_kind keywords.Break = kind.Jump jumps.Break
keyword_kind keywords.Next = kind.Jump jumps.Next
keyword_kind keywords.Return = kind.Jump jumps.Return
keyword_kind keywords.Yield = kind.Passing passings.Yield
keyword_kind keywords.SuperWord = kind.Passing passings.Super
keyword_kind keywords.Def = kind.Def
keyword_kind keywords.Class = kind.Class openings.Unknown
keyword_kind keywords.And = kind.AndWord
keyword_kind keywords.Or = kind.OrWord
keyword_kind keywords.Not = kind.NotWord
keyword_kind keywords.Then = kind.Then
keyword_kind keywords.Elsif = kind.Elsif
keyword_kind keywords.Else = kind.Else
keyword_kind keywords.Rescue = kind.Rescue
keyword_kind keywords.Ensure = kind.Ensure
keyword_kind keywords.End = kind.End

abbrev pub op_kind : Op → WordKind
op_kind ops.Open = kind.Open
op_kind ops.Close = kind.Close
op_kind ops.OpenSquare = kind.OpenSquare
op_kind ops.CloseSquare = kind.CloseSquare
op_kind ops.Dot = kind.Dot
op_kind ops.Path = kind.Path
op_kind ops.Arrow = kind.Arrow
op_kind ops.Comma = kind.Comma
op_kind ops.Semicolon = kind.Separator
op_kind ops.Assign = kind.Assign signs.Plain
op_kind ops.PlusAssign = kind.Assign (signs.With (operations.Infix (infixes.Binary op.Add)))
op_kind ops.MinusAssign = kind.Assign (signs.With (operations.Infix (infixes.Binary op.Subtract)))
op_kind ops.StarAssign = kind.Assign (signs.With (operations.Infix (infixes.Binary op.Multiply)))
op_kind ops.SlashAssign = kind.Assign (signs.With (operations.Infix (infixes.Binary op.Divide)))
op_kind ops.PercentAssign = kind.Assign (signs.With (operations.Infix (infixes.Binary op.Remainder)))
op_kind ops.ShiftAssign = kind.Assign (signs.With (operations.Infix infixes.Append))
op_kind ops.OrAssign = kind.Assign (signs.With (operations.Connective connectives.Or))
op_kind ops.AndAssign = kind.Assign (signs.With (operations.Connective connectives.And))
op_kind ops.Minus = kind.Minus
op_kind ops.Plus = kind.Operator (infixes.Binary op.Add)
op_kind ops.Star = kind.Operator (infixes.Binary op.Multiply)
op_kind ops.Slash = kind.Operator (infixes.Binary op.Divide)
op_kind ops.Percent = kind.Operator (infixes.Binary op.Remainder)
op_kind ops.Less = kind.Operator (infixes.Binary op.Less)
op_kind ops.LessOrEqual = kind.Operator (infixes.Binary op.LessOrEqual)
op_kind ops.Greater = kind.Operator (infixes.Binary op.Greater)
op_kind ops.GreaterOrEqual = kind.Operator (infixes.Binary op.GreaterOrEqual)
op_kind ops.Compare = kind.Operator (infixes.Binary op.Compare)
op_kind ops.Equal = kind.Operator (infixes.Binary op.Equal)
op_kind ops.NotEqual = kind.Operator (infixes.Binary op.NotEqual)
op_kind ops.Shift = kind.Operator infixes.Append
op_kind ops.And = kind.And
op_kind ops.Or = kind.Or
op_kind ops.Bang = kind.Bang
op_kind ops.Bar = kind.Bar
op_kind ops.Question = kind.Question
op_kind ops.Colon = kind.Colon

-- the names, where one more comes: a name that is there already is not added
abbrev pub with_name : List (List ℕ) → List ℕ → List (List ℕ)
with_name names name = if list_any (bytes_eq name) names then names else names ++ name ∷ []

-- the name that a token of a kind has
abbrev pub token_name : List ℕ → Token → Kind → List ℕ
token_name source token k = name_of k (word_of source token)

abbrev pub with_symbol : List ℕ → List (List ℕ) → Token → Kind → List (List ℕ)
with_symbol source names token kinds.Name = with_name names (token_name source token kinds.Name)
with_symbol source names token kinds.Constant = with_name names (token_name source token kinds.Constant)
with_symbol source names token kinds.InstanceVariable = with_name names (token_name source token kinds.InstanceVariable)
with_symbol source names token kinds.GlobalVariable = with_name names (token_name source token kinds.GlobalVariable)
with_symbol source names token kinds.Symbol = with_name names (token_name source token kinds.Symbol)
with_symbol source names token kinds.Label = with_name names (token_name source token kinds.Label)
with_symbol source names token _ = names

-- the names, where a method's name comes, or another token
abbrev pub with_symbol_of : List ℕ → List (List ℕ) → Token → Option MethodName → List (List ℕ)
with_symbol_of source names token None = with_symbol source names token token.kind
with_symbol_of source names token (Some m) = with_name names (token_name source m.token m.token.kind)

-- the texts of the names among the tokens, behind these names, where `def` stands before the tokens or not
abbrev pub symbols_behind : List ℕ → List (List ℕ) → Bool → List Token → List (List ℕ)
symbols_behind source names def [] = names
symbols_behind source names def (t ∷ ts) = symbols_behind source (with_symbol_of source names t (method_name_at def t ts)) (is_def t.kind) ts

-- The texts of the names among the tokens, each once, in the order of their first places. Behind `def` the tokens of a method's
-- name are one name.
abbrev pub symbols_of : List ℕ → List Token → List (List ℕ)
symbols_of source tokens = symbols_behind source [] false tokens

abbrev pub with_text : List ℕ → List (List ℕ) → Token → Kind → List (List ℕ)
with_text source texts token kinds.Text = texts ++ contents_of (word_of source token) ∷ []
with_text source texts token kinds.Single = texts ++ contents_of (word_of source token) ∷ []
with_text source texts token kinds.Head = texts ++ contents_of (word_of source token) ∷ []
with_text source texts token kinds.Middle = texts ++ contents_of (word_of source token) ∷ []
with_text source texts token kinds.Tail = texts ++ contents_of (word_of source token) ∷ []
with_text source texts token _ = texts

-- what the text literals among the tokens stand for, or their pieces where parts of them are evaluated, in their order
abbrev pub texts_of : List ℕ → List Token → List (List ℕ)
texts_of source tokens = fold (λ texts token. with_text source texts token token.kind) [] tokens

-- an integer that is no number is no word of the grammar
abbrev pub int_kind : Option ℕ → WordKind
int_kind (Some n) = kind.Int n
int_kind None = kind.Other

-- the number of a name: its place among these names, or the next one where it is new
abbrev pub number_of : List (List ℕ) → List ℕ → Sym
number_of names name = record { 0 = position_or_len (bytes_eq name) names }

-- a name that ends with `?` or `!`
abbrev pub is_marked : List ℕ → Bool
is_marked name = let last = slice_index name (length name - 1) in last == 63 || last == 33

-- what the methods of the attributes do behind a name, if it stands before attributes
abbrev pub accessor_named : List ℕ → Option Access
accessor_named name =
    if bytes_eq name (codes "attr_reader") then Some accesses.Read
    else if bytes_eq name (codes "attr_writer") then Some accesses.Write
    else if bytes_eq name (codes "attr_accessor") then Some accesses.Both
    else None

abbrev pub unmarked : Option Access → NameKind
unmarked None = name_kinds.Plain
unmarked (Some a) = name_kinds.Accessor a

-- what a name is told from other names by
abbrev pub name_kind : List ℕ → NameKind
name_kind name = if is_marked name then name_kinds.Marked else unmarked (accessor_named name)

-- what the name of a constant is before a program sets it, by the built-in class that has it
abbrev pub naming_of : Option BuiltInClass → Naming
naming_of None = namings.Free
naming_of (Some built_in.Ractor) = namings.Ractor
naming_of (Some _) = namings.Class

-- what a token is as a word, behind these names and so many texts
abbrev pub word_kind : List ℕ → List (List ℕ) → ℕ → Token → Kind → WordKind
word_kind source names texts token kinds.Name = kind.Name (number_of names (token_name source token kinds.Name)) (name_kind (token_name source token kinds.Name))
word_kind source names texts token kinds.Constant = kind.Constant (number_of names (token_name source token kinds.Constant)) (naming_of (class_named (token_name source token kinds.Constant)))
word_kind source names texts token kinds.InstanceVariable = kind.Field (number_of names (token_name source token kinds.InstanceVariable))
word_kind source names texts token kinds.GlobalVariable = kind.Global (number_of names (token_name source token kinds.GlobalVariable))
word_kind source names texts token kinds.Symbol = kind.Symbol (number_of names (token_name source token kinds.Symbol))
word_kind source names texts token kinds.Label = kind.Label (number_of names (token_name source token kinds.Label))
word_kind source names texts token kinds.Int = int_kind (int_value_of (word_of source token))
word_kind source names texts token kinds.Text = kind.Text texts
word_kind source names texts token kinds.Single = kind.Text texts
word_kind source names texts token kinds.Head = kind.TextHead texts
word_kind source names texts token kinds.Middle = kind.TextMiddle texts
word_kind source names texts token kinds.Tail = kind.TextTail texts
word_kind source names texts token (kinds.Keyword k) = keyword_kind k
word_kind source names texts token (kinds.Op o) = op_kind o
word_kind source names texts token kinds.LineEnd = kind.Separator
word_kind source names texts token kinds.OpenBrace = kind.OpenBrace
word_kind source names texts token kinds.CloseBrace = kind.CloseBrace
word_kind source names texts token _ = kind.Other

-- The same where a method's name begins, which is one word; the tokens behind its first one stand for what they are else.
abbrev pub word_kind_of : List ℕ → List (List ℕ) → ℕ → Token → Option MethodName → WordKind
word_kind_of source names texts token None = word_kind source names texts token token.kind
word_kind_of source names texts token (Some m) = kind.MethodName (number_of names (token_name source m.token m.token.kind)) m.more

abbrev pub word_with : List ℕ → List (List ℕ) → ℕ → Token → Option MethodName → Word
word_with source names texts token method = record { kind = word_kind_of source names texts token method; blank = token.blank }

-- the words of tokens, behind these names and texts, where `def` stands before the tokens or not
abbrev pub words_behind : List ℕ → List (List ℕ) → List (List ℕ) → Bool → List Token → List Word
words_behind source names texts def [] = []
words_behind source names texts def (t ∷ ts) =
    word_with source names (length texts) t (method_name_at def t ts)
    ∷ words_behind source (with_symbol_of source names t (method_name_at def t ts)) (with_text source texts t t.kind) (is_def t.kind) ts

-- the same, where the names of the program's classes are told from other constants
abbrev pub told_words : List ℕ → List Token → List Word
told_words source tokens = with_classes (words_behind source [] [] false tokens)

-- A word for each token, whose numbers come from the tokens before it. Each word `class` is told the superclass, which stands
-- earlier.
abbrev pub words_of : List ℕ → List Token → List Word
words_of source tokens = opened_words (symbols_of source tokens) [] (told_words source tokens)

-- the classes of the program, each once, in the order in which they first stand, with the superclass that the first head tells
abbrev pub classes_of : List ℕ → List Token → List Class
classes_of source tokens = map class_of_entry (classes_by (symbols_of source tokens) (heads_in (told_words source tokens)))
