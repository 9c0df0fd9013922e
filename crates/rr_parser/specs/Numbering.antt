-- What a numbering of names and texts holds.
use Rattle.std.specs.Prelude.{ℕ, List, map, Option, Some, None}
use Rattle.rr_lexer.specs.declared.kind.Token.{Token}
use Rattle.rr_parser.specs.declared.method_names.MethodName.{MethodName}
use Rattle.rr_parser.specs.declared.names.Numbering.{Numbering}
use Rattle.rr_parser.specs.Words.{with_text}

-- the names, by number
abbrev pub names_of : Numbering → List (List ℕ)
names_of n = map (λ k. k.now) n.names.keys

-- the texts, by number
abbrev pub texts_held : Numbering → List (List ℕ)
texts_held n = map (λ v. v.items) n.texts.items

-- the texts, where a token comes that may begin a method's name, which is no text
abbrev pub with_text_of : List ℕ → List (List ℕ) → Token → Option MethodName → List (List ℕ)
with_text_of source texts token None = with_text source texts token token.kind
with_text_of source texts token (Some m) = texts
