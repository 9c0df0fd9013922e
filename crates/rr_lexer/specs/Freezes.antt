-- Whether the head of a source has the comment line that freezes literals.
use Rattle.std.specs.Prelude.{ℕ, ◌==◌, ◌||◌, ◌&&◌, Bool, true, false, List, [], ◌∷◌, length, take, drop, slice_index, codes, if◌then◌else◌}
use Rattle.std.specs.Str.{bytes_eq}
use Rattle.rr_lexer.specs.Lines.{is_line_end}
use Rattle.rr_lexer.specs.Tokens.{start_of}
use Rattle.rr_lexer.specs.declared.kind.Token.{Token}

abbrev pub frozen_comment : List ℕ
frozen_comment = codes "# frozen_string_literal: true"

-- no byte, a line feed, or a carriage return and a line feed
abbrev pub is_end_of_line : List ℕ → Bool
is_end_of_line [] = true
is_end_of_line (b ∷ bs) = b == 10 || (b == 13 && slice_index bs 0 == 10)

unfoldable pub has_comment : List ℕ → Bool
has_comment bytes = bytes_eq (take 29 bytes) frozen_comment

-- the rest of a line is that comment
abbrev pub is_frozen_comment : List ℕ → Bool
is_frozen_comment bytes = has_comment bytes && is_end_of_line (drop 29 bytes)

-- the line goes on to have nothing but blanks
abbrev pub stays_blank : Bool → ℕ → Bool
stays_blank fresh b = b == 10 || (fresh && (b == 32 || (b == 9 || b == 13)))

-- Some line of these bytes is that comment, with nothing but blanks before it; where they stand in a line that has had
-- nothing but blanks (fresh), or not.
abbrev pub has_frozen_line : Bool → List ℕ → Bool
has_frozen_line fresh [] = false
has_frozen_line fresh (b ∷ bs) = (fresh && is_frozen_comment (b ∷ bs)) || has_frozen_line (stays_blank fresh b) bs

-- where the first token that is no line end begins, or where the source ends
abbrev pub first_start : ℕ → List Token → ℕ
first_start size [] = size
first_start size (t ∷ ts) = if is_line_end t.kind then first_start size ts else t.start

-- Before the first token a comment line freezes literals.
abbrev pub freezes : List ℕ → List Token → Bool
freezes source tokens = has_frozen_line true (drop (start_of source) (take (first_start (length source) tokens) source))
