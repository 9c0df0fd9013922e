-- The line and the column that stand behind a front of the source, both from 1.
use Rattle.std.specs.Prelude.{ℕ, ◌+◌, ◌==◌, ◌≡◌, not, List, count_by, take, min}
use Rattle.std.specs.List.{suffix_len}

-- one more than the line ends before it
unfoldable pub line_of : List ℕ → ℕ
line_of front = 1 + count_by (λ b. b == 10) front

-- one more than the bytes since the last line end
unfoldable pub column_of : List ℕ → ℕ
column_of front = 1 + suffix_len (λ b. not (b == 10)) front

-- what is told of a line or a column: 4294967295 stands for any larger number
abbrev pub told : ℕ → ℕ
told n = min n 4294967295

-- the line and the column of the byte at a place
pub record IsAt (source : List ℕ) (place line column : ℕ) : Type 0 where
  pub line_is : line ≡ told (line_of (take place source))
  pub column_is : column ≡ told (column_of (take place source))
