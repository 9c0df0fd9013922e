-- What a byte can begin.
use Rattle.std.specs.Prelude.{ℕ, ◌==◌, ◌||◌, Bool, true, false, if◌then◌else◌}
use Rattle.std.specs.Int.{is_in_range}
use Prim.Native.Char.{Char, code}
use Rattle.rr_lexer.specs.declared.class.Class.{Class}
use Rattle.rr_lexer.specs.declared.class.Class.TheVariants.{Lower, Upper, Digit, Double, Single, Hash, LineFeed, Return, Blank, Backslash, At, Dollar, Colon, OpenBrace, CloseBrace, Mark, Other}

-- the byte of a character of ASCII
abbrev pub byte : Char → ℕ
byte c = code c

-- the first bytes of the operators and brackets, without `:`, `{` and `}`
abbrev pub is_mark : ℕ → Bool
is_mark b = is_in_range 40 47 b || (b == 37 || (b == 38 || (b == 33 || (is_in_range 59 63 b || (b == 91 || (b == 93 || b == 124))))))

unfoldable pub class_of : ℕ → Class
class_of b = if is_in_range 97 122 b || b == 95 then Lower
    else (if is_in_range 65 90 b then Upper
    else (if is_in_range 48 57 b then Digit
    else (if b == 34 then Double
    else (if b == 39 then Single
    else (if b == 35 then Hash
    else (if b == 10 then LineFeed
    else (if b == 13 then Return
    else (if b == 32 || b == 9 then Blank
    else (if b == 92 then Backslash
    else (if b == 64 then At
    else (if b == 36 then Dollar
    else (if b == 58 then Colon
    else (if b == 123 then OpenBrace
    else (if b == 125 then CloseBrace
    else (if is_mark b then Mark
    else Other)))))))))))))))

-- a name goes on with letters, digits and `_`
abbrev pub goes_on : Class → Bool
goes_on Lower = true
goes_on Upper = true
goes_on Digit = true
goes_on _ = false

abbrev pub is_word_byte : ℕ → Bool
is_word_byte b = goes_on (class_of b)
