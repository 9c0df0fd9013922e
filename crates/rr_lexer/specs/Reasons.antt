-- Why no token begins at a place.
use Rattle.std.specs.Prelude.{ℕ, ◌≡◌, ◌≢◌, ◌⊎◌, true, false, List, ◌∷◌, drop, slice_index}
use Rattle.rr_lexer.specs.Bytes.{class_of}
use Rattle.rr_lexer.specs.Texts.{is_escape}
use Rattle.rr_lexer.specs.declared.class.Class.{Class}
use Rattle.rr_lexer.specs.declared.class.Class.TheVariants as classes
use Rattle.rr_base.specs.declared.fault.SyntaxKind.{SyntaxKind}
use Rattle.rr_base.specs.declared.fault.SyntaxKind.TheVariants as syntax

-- Behind the byte that begins a piece of a text stands, before anything that ends it, something that is left out: an
-- escape, a line end behind a backslash, or `#` and then `@` or `$`.
pub data BreaksOff : List ℕ → Type 0 where
  escape_left_out : {b : ℕ} {rest : List ℕ} → is_escape b ≡ false → b ≢ 13 → BreaksOff (92 ∷ b ∷ rest)
  line_left_out : {rest : List ℕ} → BreaksOff (92 ∷ 13 ∷ 10 ∷ rest)
  variable_left_out : {b : ℕ} {rest : List ℕ} → (b ≡ 64) ⊎ (b ≡ 36) → BreaksOff (35 ∷ b ∷ rest)
  plain : {b : ℕ} {rest : List ℕ} → b ≢ 34 → b ≢ 92 → b ≢ 35 → BreaksOff rest → BreaksOff (b ∷ rest)
  hash : {b : ℕ} {rest : List ℕ} → b ≢ 123 → b ≢ 64 → b ≢ 36 → BreaksOff (b ∷ rest) → BreaksOff (35 ∷ b ∷ rest)
  escape : {b : ℕ} {rest : List ℕ} → is_escape b ≡ true → BreaksOff rest → BreaksOff (92 ∷ b ∷ rest)
  returned : {b : ℕ} {rest : List ℕ} → b ≢ 10 → BreaksOff (b ∷ rest) → BreaksOff (92 ∷ 13 ∷ b ∷ rest)

-- why no piece of a text begins here: something in it is left out, or its end is missing
abbrev pub IsTextReason : SyntaxKind → List ℕ → Type 0
IsTextReason kind body = ((kind ≡ syntax.LeftOut) × BreaksOff body) ⊎ ((kind ≡ syntax.UnterminatedString) × (BreaksOff body → ⊥))

-- The same for any token, by what its first byte can begin. A word that is no token is one of Ruby's that are left out.
abbrev pub IsReasonFor : Class → SyntaxKind → List ℕ → Type 0
IsReasonFor classes.Double kind body = IsTextReason kind body
IsReasonFor classes.CloseBrace kind body = IsTextReason kind body
IsReasonFor classes.Single kind body = kind ≡ syntax.UnterminatedString
IsReasonFor classes.Digit kind body = kind ≡ syntax.Number
IsReasonFor classes.Lower kind body = kind ≡ syntax.LeftOut
IsReasonFor classes.Upper kind body = kind ≡ syntax.LeftOut
IsReasonFor _ kind body = kind ≡ syntax.Character

-- This is why no token begins at these bytes.
abbrev pub IsReason : SyntaxKind → List ℕ → Type 0
IsReason kind bytes = IsReasonFor (class_of (slice_index bytes 0)) kind (drop 1 bytes)
