-- What a token stands for.
use Rattle.std.specs.Prelude.{ℕ, ◌-◌, ◌==◌, ◌||◌, ◌&&◌, Bool, true, false, List, [], ◌∷◌, Option, Some, None, length, take, drop, slice_index, nat_le, if◌then◌else◌}
use Rattle.rr_lexer.specs.Scans.{number_at}
use Rattle.rr_lexer.specs.declared.kind.Kind.{Kind}
use Rattle.rr_lexer.specs.declared.kind.Kind.TheVariants as kinds
use Rattle.rr_lexer.specs.declared.kind.Token.{Token}

-- the bytes that a token spans; none where it does not lie in the source
abbrev pub word_of : List ℕ → Token → List ℕ
word_of source token = if nat_le token.start token.end && nat_le token.end (length source)
    then take (token.end - token.start) (drop token.start source) else []

abbrev pub whole_number : ℕ → Option (ℕ × ℕ) → Option ℕ
whole_number size None = None
whole_number size (Some p) = if p.1 == size then Some p.0 else None

-- the number that the whole word spells
unfoldable pub int_value_of : List ℕ → Option ℕ
int_value_of word = whole_number (length word) (number_at word)

-- what a backslash and this byte stand for
abbrev pub escaped_byte : ℕ → ℕ
escaped_byte b = if b == 110 then 10 else (if b == 116 then 9 else (if b == 114 then 13 else (if b == 101 then 27 else (if b == 115 then 32 else b))))

-- a carriage return before a line feed, which with it is one line end
abbrev pub is_folded : ℕ → ℕ → Bool
is_folded b next = b == 13 && next == 10

-- What the bytes of a piece behind its first one stand for, up to the quote or the `#{` that ends it; with whether a
-- backslash stands before them.
abbrev pub text_body : List ℕ → Bool → List ℕ
text_body [] escaped = []
text_body (b ∷ bs) true = escaped_byte b ∷ text_body bs false
text_body (b ∷ bs) false = if b == 34 || (b == 35 && slice_index bs 0 == 123) then []
    else (if b == 92 then text_body bs true
    else (if is_folded b (slice_index bs 0) then text_body bs false
    else b ∷ text_body bs false))

-- The same in single quotes, where a backslash stands for itself unless a backslash or a single quote follows.
abbrev pub single_body : List ℕ → Bool → List ℕ
single_body [] escaped = []
single_body (b ∷ bs) true = b ∷ single_body bs false
single_body (b ∷ bs) false = if b == 39 then []
    else (if b == 92 && (slice_index bs 0 == 92 || slice_index bs 0 == 39) then single_body bs true
    else (if is_folded b (slice_index bs 0) then single_body bs false
    else b ∷ single_body bs false))

-- The text that a text in single quotes, or a piece of one in double quotes, stands for. Other words stand for none.
abbrev pub contents_of : List ℕ → List ℕ
contents_of [] = []
contents_of (q ∷ bs) = if q == 39 then single_body bs false else (if q == 34 || q == 125 then text_body bs false else [])

-- The name that a symbol, a label or an instance variable has, without its colon or its `@`, so that attributes and instance variables
-- have one name. Other tokens have their own bytes.
abbrev pub name_of : Kind → List ℕ → List ℕ
name_of kinds.Symbol word = drop 1 word
name_of kinds.InstanceVariable word = drop 1 word
name_of kinds.Label word = take (length word - 1) word
name_of _ word = word
