-- What holds of the tokens of any source.
use Rattle.std.specs.Prelude.{ℕ, ◌<◌, ◌≤◌, ◌≡◌, ◌↔◌, IsTrue, List, [], ◌∷◌, length, Some}
use Rattle.rr_lexer.specs.Numbers.{IsInt}
use Rattle.rr_lexer.specs.Contents.{int_value_of}
use Rattle.rr_lexer.specs.Tokens.{AreTokensOf, start_of}
use Rattle.rr_lexer.specs.declared.kind.Token.{Token}

-- a source has one list of tokens at most
abbrev pub TokensAreOne : Type 0
TokensAreOne = (source : List ℕ) (a b : List Token) → AreTokensOf source a → AreTokensOf source b → a ≡ b

-- From place i up to place j these tokens lie behind one another, none of them empty, and each has a blank before it
-- exactly where bytes stand between it and the one before. So directly behind another one means adjacent bytes.
pub data AreInOrder : ℕ → List Token → ℕ → Type 0 where
  done : {i j : ℕ} → i ≤ j → AreInOrder i [] j
  further : {i j : ℕ} {t : Token} {ts : List Token} → i ≤ t.start → t.start < t.end → (IsTrue t.blank ↔ (i < t.start)) → AreInOrder t.end ts j → AreInOrder i (t ∷ ts) j

-- the tokens of a source lie in it so, behind its byte order mark
abbrev pub TokensAreInOrder : Type 0
TokensAreInOrder = (source : List ℕ) (tokens : List Token) → AreTokensOf source tokens → AreInOrder (start_of source) tokens (length source)

-- a word has a value exactly where its bytes spell that number
abbrev pub IntsHaveTheirValues : Type 0
IntsHaveTheirValues = (word : List ℕ) (v : ℕ) → (int_value_of word ≡ Some v) ↔ IsInt word [] v
