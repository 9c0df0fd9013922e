-- The faults of parsing.
use Rattle.std.specs.Prelude.{◌≡◌, ◌-◌, ℕ, Bool, true, false, List, [], ◌∷◌, drop, length, if◌then◌else◌}
use Rattle.rr_base.specs.declared.fault.Fault.{Fault}
use Rattle.rr_base.specs.declared.fault.Fault.TheVariants as fault
use Rattle.rr_base.specs.declared.fault.SyntaxKind.{SyntaxKind}
use Rattle.rr_base.specs.declared.fault.SyntaxKind.TheVariants as syntax
use Rattle.rr_base.specs.declared.limits.LimitKind.TheVariants as limit
use Rattle.rr_lexer.specs.declared.kind.Kind.{Kind}
use Rattle.rr_lexer.specs.declared.kind.Kind.TheVariants as kinds
use Rattle.rr_lexer.specs.declared.kind.Op.TheVariants as ops
use Rattle.rr_lexer.specs.declared.kind.Token.{Token}
use Rattle.rr_parser.specs.declared.refusal.Refusal.{Refusal}
use Rattle.rr_parser.specs.declared.refusal.Refusal.TheVariants as refusal
use Rattle.rr_parser.specs.declared.refusal.Storage.TheVariants as storage

-- want of memory, a place that is not of the language, and the limits of nesting and of nodes
abbrev pub IsParseFault : Fault → Type 0
IsParseFault fault.Memory = Unit {0}
IsParseFault (fault.Syntax line column kind) = Unit {0}
IsParseFault (fault.Limit limit.Nesting) = Unit {0}
IsParseFault (fault.Limit limit.Slots) = Unit {0}
IsParseFault _ = ⊥

abbrev pub IsSyntax : SyntaxKind → Fault → Type 0
IsSyntax kind f = (line : ℕ) × (column : ℕ) × (f ≡ fault.Syntax line column kind)

-- so many tokens, the last ones
abbrev pub last_tokens : ℕ → List Token → List Token
last_tokens n tokens = drop (length tokens - n) tokens

abbrev pub is_constant : Kind → Bool
is_constant kinds.Constant = true
is_constant _ = false

abbrev pub kind_behind_dot : List Token → SyntaxKind
kind_behind_dot [] = syntax.UnexpectedToken
kind_behind_dot (t ∷ ts) = if is_constant t.kind then syntax.LeftOut else syntax.UnexpectedToken

abbrev pub kind_at : Kind → List Token → SyntaxKind
kind_at (kinds.Op ops.Path) ts = syntax.LeftOut
kind_at (kinds.Op ops.Dot) ts = kind_behind_dot ts
kind_at _ ts = syntax.UnexpectedToken

-- How tokens are refused with which nothing goes on: a path other than `Ractor::` and a constant, and a constant behind a dot, are
-- left out.
abbrev pub unexpected_kind : List Token → SyntaxKind
unexpected_kind [] = syntax.UnexpectedEnd
unexpected_kind (t ∷ ts) = kind_at t.kind ts

-- what a refusal is told as, where these are the tokens
abbrev pub IsFaultOf : List Token → Refusal → Fault → Type 0
IsFaultOf tokens (refusal.Storage storage.Memory) f = f ≡ fault.Memory
IsFaultOf tokens (refusal.Storage storage.Slots) f = f ≡ fault.Limit limit.Slots
IsFaultOf tokens refusal.Nesting f = f ≡ fault.Limit limit.Nesting
IsFaultOf tokens (refusal.Unexpected n) f = IsSyntax (unexpected_kind (last_tokens n tokens)) f
IsFaultOf tokens (refusal.Number n) f = IsSyntax syntax.Number f
IsFaultOf tokens (refusal.LeftOut n) f = IsSyntax syntax.LeftOut f
IsFaultOf tokens (refusal.Constant n) f = IsSyntax syntax.Constant f
