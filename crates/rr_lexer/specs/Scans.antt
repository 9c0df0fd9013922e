-- The token at the front, found byte by byte.
use Rattle.std.specs.Prelude.{ℕ, ◌+◌, ◌-◌, ◌*◌, ◌≡◌, ◌==◌, ◌||◌, ◌&&◌, not, Bool, true, false, List, [], ◌∷◌, Option, Some, None, length, take, drop, slice_index, nat_lt, if◌then◌else◌}
use Rattle.std.specs.Str.{bytes_eq}
use Rattle.std.specs.List.{prefix_len}
use Rattle.rr_lexer.specs.Bytes.{byte, class_of, is_word_byte}
use Rattle.rr_lexer.specs.Words.{keyword_text, is_left_out, takes_mark, takes_colon, op_text}
use Rattle.rr_lexer.specs.Texts.{is_escape}
use Rattle.rr_lexer.specs.Numbers.{digit_value, is_digit_of, base_of, has_base, goes_on_in, largest_int}
use Rattle.rr_lexer.specs.declared.class.Class.{Class}
use Rattle.rr_lexer.specs.declared.class.Class.TheVariants as classes
use Rattle.rr_lexer.specs.declared.texts.Mode.{Mode}
use Rattle.rr_lexer.specs.declared.texts.Mode.TheVariants.{Plain, Escaped, Hash, Returned}
use Rattle.rr_lexer.specs.declared.kind.Keyword.{Keyword}
use Rattle.rr_lexer.specs.declared.kind.Keyword.TheVariants as keywords
use Rattle.rr_lexer.specs.declared.kind.Op.{Op}
use Rattle.rr_lexer.specs.declared.kind.Op.TheVariants as ops
use Rattle.rr_lexer.specs.declared.kind.Kind.{Kind}
use Rattle.rr_lexer.specs.declared.kind.Kind.TheVariants as kinds

-- words

-- the keywords of a length
abbrev pub keywords_of_size : ℕ → List Keyword
keywords_of_size n = if n == 2 then keywords.Do ∷ keywords.If ∷ keywords.Or ∷ []
    else (if n == 3 then keywords.And ∷ keywords.Def ∷ keywords.End ∷ keywords.Nil ∷ keywords.Not ∷ []
    else (if n == 4 then keywords.Else ∷ keywords.Next ∷ keywords.SelfWord ∷ keywords.Then ∷ keywords.True ∷ []
    else (if n == 5 then keywords.Begin ∷ keywords.Break ∷ keywords.Class ∷ keywords.Elsif ∷ keywords.False ∷ keywords.SuperWord
    ∷ keywords.Until ∷ keywords.While ∷ keywords.Yield ∷ []
    else (if n == 6 then keywords.Ensure ∷ keywords.Rescue ∷ keywords.Return ∷ keywords.Unless ∷ []
    else []))))

abbrev pub keyword_among : List ℕ → List Keyword → Option Keyword
keyword_among word [] = None
keyword_among word (k ∷ ks) = if bytes_eq word (keyword_text k) then Some k else keyword_among word ks

unfoldable pub keyword_from : List ℕ → Option Keyword
keyword_from word = keyword_among word (keywords_of_size (length word))

abbrev pub reserved_or_name : Option Keyword → Bool → Option Kind
reserved_or_name (Some k) left_out = Some (kinds.Keyword k)
reserved_or_name None true = None
reserved_or_name None false = Some kinds.Name

-- what a word is
abbrev pub word_kind : Bool → List ℕ → Option Kind
word_kind true word = Some kinds.Name
word_kind false word = reserved_or_name (keyword_from word) (is_left_out word)

abbrev pub sized : ℕ → Option Kind → Option (Kind × ℕ)
sized n None = None
sized n (Some kind) = Some (kind, n)

-- what a word with `?` or `!`, or one that begins with a capital letter, is
abbrev pub unless_left_out : Kind → Bool → List ℕ → Option Kind
unless_left_out kind true word = Some kind
unless_left_out kind false word = if is_left_out word then None else Some kind

-- behind n bytes of a word
abbrev pub lower_from : Bool → List ℕ → ℕ → Option (Kind × ℕ)
lower_from after_dot s n = if takes_colon (slice_index s n) (slice_index s (n + 1)) then Some (kinds.Label, n + 1)
    else (if takes_mark (slice_index s n) (slice_index s (n + 1)) then sized (n + 1) (unless_left_out kinds.Name after_dot (take (n + 1) s))
    else sized n (word_kind after_dot (take n s)))

abbrev pub upper_from : Bool → List ℕ → ℕ → Option (Kind × ℕ)
upper_from after_dot s n = if takes_colon (slice_index s n) (slice_index s (n + 1)) then Some (kinds.Label, n + 1)
    else sized n (unless_left_out kinds.Constant after_dot (take n s))

unfoldable pub lower_at : Bool → List ℕ → Option (Kind × ℕ)
lower_at after_dot s = lower_from after_dot s (prefix_len is_word_byte s)

unfoldable pub upper_at : Bool → List ℕ → Option (Kind × ℕ)
upper_at after_dot s = upper_from after_dot s (prefix_len is_word_byte s)

-- a byte and a word behind it
abbrev pub prefixed : Kind → List ℕ → Option (Kind × ℕ)
prefixed kind s = Some (kind, prefix_len is_word_byte (drop 1 s) + 1)

abbrev pub variable_of : Kind → Class → List ℕ → Option (Kind × ℕ)
variable_of kind classes.Lower s = prefixed kind s
variable_of kind _ s = None

abbrev pub variable_at : Kind → List ℕ → Option (Kind × ℕ)
variable_at kind s = variable_of kind (class_of (slice_index s 1)) s

-- operators

unfoldable pub op_of : ℕ → ℕ → ℕ → Option Op
op_of a b c =
    if a == byte "+" then (if b == byte "=" then Some ops.PlusAssign else Some ops.Plus)
    else (if a == byte "-" then (if b == byte "=" then Some ops.MinusAssign else Some ops.Minus)
    else (if a == byte "*" then (if b == byte "=" then Some ops.StarAssign else Some ops.Star)
    else (if a == byte "/" then (if b == byte "=" then Some ops.SlashAssign else Some ops.Slash)
    else (if a == byte "%" then (if b == byte "=" then Some ops.PercentAssign else Some ops.Percent)
    else (if a == byte "=" then (if b == byte "=" then Some ops.Equal else (if b == byte ">" then Some ops.Arrow else Some ops.Assign))
    else (if a == byte "!" then (if b == byte "=" then Some ops.NotEqual else Some ops.Bang)
    else (if a == byte "<" then (if b == byte "=" then (if c == byte ">" then Some ops.Compare else Some ops.LessOrEqual) else (if b == byte "<" then (if c == byte "=" then Some ops.ShiftAssign else Some ops.Shift) else Some ops.Less))
    else (if a == byte ">" then (if b == byte "=" then Some ops.GreaterOrEqual else Some ops.Greater)
    else (if a == byte "&" then (if b == byte "&" then (if c == byte "=" then Some ops.AndAssign else Some ops.And) else None)
    else (if a == byte "|" then (if b == byte "|" then (if c == byte "=" then Some ops.OrAssign else Some ops.Or) else Some ops.Bar)
    else (if a == byte "?" then Some ops.Question
    else (if a == byte ":" then (if b == byte ":" then Some ops.Path else Some ops.Colon)
    else (if a == byte "." then Some ops.Dot
    else (if a == byte "," then Some ops.Comma
    else (if a == byte ";" then Some ops.Semicolon
    else (if a == byte "(" then Some ops.Open
    else (if a == byte ")" then Some ops.Close
    else (if a == byte "[" then Some ops.OpenSquare
    else (if a == byte "]" then Some ops.CloseSquare
    else None)))))))))))))))))))

-- these bytes, the first of at least one and at most three, are this text, or begin with it
abbrev pub AreFront : List ℕ → ℕ → ℕ → ℕ → Type 0
AreFront (x ∷ []) a b c = a ≡ x
AreFront (x ∷ y ∷ []) a b c = (a ≡ x) × (b ≡ y)
AreFront (x ∷ y ∷ z ∷ []) a b c = (a ≡ x) × (b ≡ y) × (c ≡ z)
AreFront _ a b c = ⊥

abbrev pub op_sized : Option Op → Option (Kind × ℕ)
op_sized None = None
op_sized (Some o) = Some (kinds.Op o, length (op_text o))

abbrev pub op_at : List ℕ → Option (Kind × ℕ)
op_at s = op_sized (op_of (slice_index s 0) (slice_index s 1) (slice_index s 2))

abbrev pub colon_of : Class → List ℕ → Option (Kind × ℕ)
colon_of classes.Lower s = prefixed kinds.Symbol s
colon_of classes.Upper s = prefixed kinds.Symbol s
colon_of _ s = op_at s

abbrev pub colon_at : List ℕ → Option (Kind × ℕ)
colon_at s = colon_of (class_of (slice_index s 1)) s

-- numbers: the value, and how many bytes it takes

abbrev pub grow : ℕ → ℕ × ℕ → ℕ × ℕ
grow i p = (p.0, i + p.1)

abbrev pub digits_from : ℕ → List ℕ → ℕ → ℕ × ℕ
digits_from base [] a = (a, 0)
digits_from base (b ∷ bs) a = if is_digit_of base b then grow 1 (digits_from base bs (a * base + digit_value b))
    else (if b == 95 && is_digit_of base (slice_index bs 0) then grow 1 (digits_from base bs a) else (a, 0))

-- the number whose first digit is the last of `size` bytes
abbrev pub checked_number : ℕ → ℕ → List ℕ → Option (ℕ × ℕ)
checked_number size base s = let p = digits_from base (drop size s) (digit_value (slice_index s (size - 1))) in
    if nat_lt largest_int p.0 || goes_on_in 10 (slice_index s (size + p.1)) (slice_index s (size + p.1 + 1)) then None else Some (p.0, size + p.1)

unfoldable pub number_at : List ℕ → Option (ℕ × ℕ)
number_at s = if not (is_digit_of 10 (slice_index s 0)) then None
    else (if slice_index s 0 == 48 && has_base (slice_index s 1) (slice_index s 2) then checked_number 3 (base_of (slice_index s 1)) s
    else (if slice_index s 0 == 48 && goes_on_in 10 (slice_index s 1) (slice_index s 2) then None
    else checked_number 1 10 s))

abbrev pub int_sized : Option (ℕ × ℕ) → Option (Kind × ℕ)
int_sized None = None
int_sized (Some p) = Some (kinds.Int, p.1)

-- texts

abbrev pub further : ℕ → Option (Bool × ℕ) → Option (Bool × ℕ)
further i None = None
further i (Some p) = Some (p.0, i + p.1)

abbrev pub piece : List ℕ → Mode → Option (Bool × ℕ)
piece [] mode = None
piece (b ∷ bs) Plain = if b == 34 then Some (false, 1) else (if b == 92 then further 1 (piece bs Escaped) else (if b == 35 then further 1 (piece bs Hash) else further 1 (piece bs Plain)))
piece (b ∷ bs) Escaped = if is_escape b then further 1 (piece bs Plain) else (if b == 13 then further 1 (piece bs Returned) else None)
piece (b ∷ bs) Hash = if b == 123 then Some (true, 1) else (if b == 64 || b == 36 then None
    else (if b == 34 then Some (false, 1) else (if b == 92 then further 1 (piece bs Escaped) else (if b == 35 then further 1 (piece bs Hash) else further 1 (piece bs Plain)))))
piece (b ∷ bs) Returned = if b == 10 then None
    else (if b == 34 then Some (false, 1) else (if b == 92 then further 1 (piece bs Escaped) else (if b == 35 then further 1 (piece bs Hash) else further 1 (piece bs Plain))))

-- whether a piece has something that is left out before anything that ends it, from a mode on
abbrev pub breaks_off : List ℕ → Mode → Bool
breaks_off [] mode = false
breaks_off (b ∷ bs) Plain = if b == 34 then false else (if b == 92 then breaks_off bs Escaped else (if b == 35 then breaks_off bs Hash else breaks_off bs Plain))
breaks_off (b ∷ bs) Escaped = if is_escape b then breaks_off bs Plain else (if b == 13 then breaks_off bs Returned else true)
breaks_off (b ∷ bs) Hash = if b == 123 then false else (if b == 64 || b == 36 then true
    else (if b == 34 then false else (if b == 92 then breaks_off bs Escaped else (if b == 35 then breaks_off bs Hash else breaks_off bs Plain))))
breaks_off (b ∷ bs) Returned = if b == 10 then true
    else (if b == 34 then false else (if b == 92 then breaks_off bs Escaped else (if b == 35 then breaks_off bs Hash else breaks_off bs Plain)))

-- the kind of a piece behind a quote, and behind a closing brace
abbrev pub at_quote : Bool → Kind
at_quote true = kinds.Head
at_quote false = kinds.Text

abbrev pub at_brace : Bool → Kind
at_brace true = kinds.Middle
at_brace false = kinds.Tail

abbrev pub quote_sized : Option (Bool × ℕ) → Option (Kind × ℕ)
quote_sized None = None
quote_sized (Some p) = Some (at_quote p.0, p.1 + 1)

abbrev pub brace_sized : Option (Bool × ℕ) → Option (Kind × ℕ)
brace_sized None = None
brace_sized (Some p) = Some (at_brace p.0, p.1 + 1)

abbrev pub longer : ℕ → Option ℕ → Option ℕ
longer i None = None
longer i (Some n) = Some (i + n)

abbrev pub single_len : List ℕ → Bool → Option ℕ
single_len [] escaped = None
single_len (b ∷ bs) true = longer 1 (single_len bs false)
single_len (b ∷ bs) false = if b == 39 then Some 1 else (if b == 92 then longer 1 (single_len bs true) else longer 1 (single_len bs false))

abbrev pub single_sized : Option ℕ → Option (Kind × ℕ)
single_sized None = None
single_sized (Some n) = Some (kinds.Single, n + 1)

-- line ends

abbrev pub return_at : List ℕ → Option (Kind × ℕ)
return_at s = if slice_index s 1 == 10 then Some (kinds.LineEnd, 2) else Some (kinds.Blank, 1)

abbrev pub backslash_at : List ℕ → Option (Kind × ℕ)
backslash_at s = if slice_index s 1 == 10 then Some (kinds.Joined, 2)
    else (if slice_index s 1 == 13 && slice_index s 2 == 10 then Some (kinds.Joined, 3) else None)

-- by the class of the first byte, inside an interpolation or not, behind `.` or not
abbrev pub element_of : Class → Bool → Bool → List ℕ → Option (Kind × ℕ)
element_of classes.Lower inside after_dot s = lower_at after_dot s
element_of classes.Upper inside after_dot s = upper_at after_dot s
element_of classes.Digit inside after_dot s = int_sized (number_at s)
element_of classes.Double inside after_dot s = quote_sized (piece (drop 1 s) Plain)
element_of classes.Single inside after_dot s = single_sized (single_len (drop 1 s) false)
element_of classes.Hash inside after_dot s = Some (kinds.Comment, prefix_len (λ b. not (b == 10)) s)
element_of classes.LineFeed inside after_dot s = Some (kinds.LineEnd, 1)
element_of classes.Return inside after_dot s = return_at s
element_of classes.Blank inside after_dot s = Some (kinds.Blank, 1)
element_of classes.Backslash inside after_dot s = backslash_at s
element_of classes.At inside after_dot s = variable_at kinds.InstanceVariable s
element_of classes.Dollar inside after_dot s = variable_at kinds.GlobalVariable s
element_of classes.Colon inside after_dot s = colon_at s
element_of classes.OpenBrace inside after_dot s = Some (kinds.OpenBrace, 1)
element_of classes.CloseBrace true after_dot s = brace_sized (piece (drop 1 s) Plain)
element_of classes.CloseBrace false after_dot s = Some (kinds.CloseBrace, 1)
element_of classes.Mark inside after_dot s = op_at s
element_of classes.Other inside after_dot s = None

unfoldable pub element_at : Bool → Bool → List ℕ → Option (Kind × ℕ)
element_at inside after_dot s = element_of (class_of (slice_index s 0)) inside after_dot s
