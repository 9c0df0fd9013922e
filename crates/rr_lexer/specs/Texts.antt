-- Texts in quotes: which bytes spell one.
use Rattle.std.specs.Prelude.{ℕ, ◌≡◌, ◌==◌, ◌≢◌, ◌||◌, Bool, true, false, List, [], ◌∷◌}
use Rattle.rr_lexer.specs.Bytes.{class_of}
use Rattle.rr_lexer.specs.declared.class.Class.{Class}
use Rattle.rr_lexer.specs.declared.class.Class.TheVariants as classes

-- no letter, digit, line feed or carriage return
abbrev pub is_sign : Class → Bool
is_sign classes.Lower = false
is_sign classes.Upper = false
is_sign classes.Digit = false
is_sign classes.LineFeed = false
is_sign classes.Return = false
is_sign _ = true

-- n, t, r, e, s
abbrev pub is_letter_escape : ℕ → Bool
is_letter_escape b = b == 110 || (b == 116 || (b == 114 || (b == 101 || b == 115)))

-- What may stand behind a backslash: one of those letters, or a byte that is no letter, digit or line end.
unfoldable pub is_escape : ℕ → Bool
is_escape b = is_letter_escape b || (b == 95 || is_sign (class_of b))

-- A piece of a text in double quotes, behind the byte that begins it, with the quote (false) or the `#{` (true) that
-- ends it. Behind a backslash a carriage return may stand where it is not part of a line end.
pub data IsPiece : Bool → List ℕ → Type 0 where
  quote : IsPiece false (34 ∷ [])
  opens : IsPiece true (35 ∷ 123 ∷ [])
  plain : {e : Bool} {b : ℕ} {rest : List ℕ} → b ≢ 34 → b ≢ 92 → b ≢ 35 → IsPiece e rest → IsPiece e (b ∷ rest)
  hash : {e : Bool} {b : ℕ} {rest : List ℕ} → b ≢ 123 → b ≢ 64 → b ≢ 36 → IsPiece e (b ∷ rest) → IsPiece e (35 ∷ b ∷ rest)
  escape : {e : Bool} {b : ℕ} {rest : List ℕ} → is_escape b ≡ true → IsPiece e rest → IsPiece e (92 ∷ b ∷ rest)
  returned : {e : Bool} {b : ℕ} {rest : List ℕ} → b ≢ 10 → IsPiece e (b ∷ rest) → IsPiece e (92 ∷ 13 ∷ b ∷ rest)

pub record IsPieceAfter (first : ℕ) (ends : Bool) (word : List ℕ) : Type 0 where
  pub rest : List ℕ
  pub piece : IsPiece ends rest
  pub whole : word ≡ first ∷ rest

-- The rest of a text in single quotes behind the first quote, with the closing one.
pub data IsSingleRest : List ℕ → Type 0 where
  close : IsSingleRest (39 ∷ [])
  plain_byte : {b : ℕ} {rest : List ℕ} → b ≢ 39 → b ≢ 92 → IsSingleRest rest → IsSingleRest (b ∷ rest)
  backslash : {b : ℕ} {rest : List ℕ} → IsSingleRest rest → IsSingleRest (92 ∷ b ∷ rest)

pub record IsSingle (word : List ℕ) : Type 0 where
  pub rest : List ℕ
  pub tail : IsSingleRest rest
  pub whole : word ≡ 39 ∷ rest
