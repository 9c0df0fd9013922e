-- Which bytes a source may have.
use Rattle.std.specs.Prelude.{ℕ, ◌==◌, ◌||◌, ◌&&◌, not, Bool, List, min, nat_lt}
use Rattle.std.specs.List.{position_or_len}
use Rattle.std.specs.Str.Lossy.{utf8_valid_len}

-- a tab, a line end, a carriage return, or a byte from 0x20 on that is not 0x7F
abbrev pub is_allowed : ℕ → Bool
is_allowed b = (nat_lt 31 b && not (b == 127)) || (b == 9 || (b == 10 || b == 13))

-- The place of the first refused byte, or the length where there is none: the first byte that is not
-- allowed, or the first at which no character of UTF-8 begins.
unfoldable pub refused_from : List ℕ → ℕ
refused_from bytes = min (utf8_valid_len bytes) (position_or_len (λ b. not (is_allowed b)) bytes)
