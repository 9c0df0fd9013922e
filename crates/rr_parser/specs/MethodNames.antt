-- The names of methods behind `def`: a name, one of a setter, or an operator's, of one token or several.
use Rattle.std.specs.Prelude.{ℕ, suc, Bool, true, false, not, ◌&&◌, List, [], ◌∷◌, Option, Some, None, if◌then◌else◌}
use Rattle.rr_lexer.specs.declared.kind.Kind.{Kind}
use Rattle.rr_lexer.specs.declared.kind.Kind.TheVariants as kinds
use Rattle.rr_lexer.specs.declared.kind.Op.{Op}
use Rattle.rr_lexer.specs.declared.kind.Op.TheVariants as ops
use Rattle.rr_lexer.specs.declared.kind.Token.{Token}
use Rattle.rr_lexer.specs.Lines.{is_assign, is_close_square}
use Rattle.rr_parser.specs.declared.method_names.MethodName.{MethodName}

-- the operators of one token that name methods
abbrev pub names_method : Op → Bool
names_method ops.Plus = true
names_method ops.Minus = true
names_method ops.Star = true
names_method ops.Slash = true
names_method ops.Percent = true
names_method ops.Shift = true
names_method ops.Equal = true
names_method ops.Less = true
names_method ops.LessOrEqual = true
names_method ops.Greater = true
names_method ops.GreaterOrEqual = true
names_method ops.Compare = true
names_method _ = false

-- the tokens from one to another as one name, which so many more tokens than the first one spell
abbrev pub through : Token → Token → ℕ → MethodName
through t u n = record { token = record { start = t.start; end = u.end; kind = kinds.Name; blank = t.blank }; more = n }

-- The name from one token to another, or up to a `=` that stands directly behind that one.
abbrev pub with_assign : Token → Token → ℕ → List Token → MethodName
with_assign t u n [] = through t u n
with_assign t u n (v ∷ vs) = if is_assign v.kind && not v.blank then through t v (suc n) else through t u n

-- `[` and directly behind it `]`, and it may be `=`
abbrev pub index_name : Token → List Token → Option MethodName
index_name t [] = None
index_name t (u ∷ us) = if is_close_square u.kind && not u.blank then Some (with_assign t u 1 us) else None

abbrev pub operator_name : Token → Op → List Token → Option MethodName
operator_name t ops.OpenSquare us = index_name t us
operator_name t o us = if names_method o then Some (through t t 0) else None

abbrev pub name_from : Token → Kind → List Token → Option MethodName
name_from t kinds.Name us = Some (with_assign t t 0 us)
name_from t (kinds.Op o) us = operator_name t o us
name_from t _ us = None

-- the name of a method that begins with a token, before these ones, if `def` stands before it
abbrev pub method_name_at : Bool → Token → List Token → Option MethodName
method_name_at true t us = name_from t t.kind us
method_name_at false t us = None
