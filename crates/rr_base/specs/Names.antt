-- The words of error lines.
use Rattle.std.specs.Prelude.{ℕ, List, codes}
use Rattle.rr_base.specs.declared.limits.LimitKind.{LimitKind}
use Rattle.rr_base.specs.declared.limits.LimitKind.TheVariants as limit
use Rattle.rr_base.specs.declared.fault.SyntaxKind.{SyntaxKind}
use Rattle.rr_base.specs.declared.fault.SyntaxKind.TheVariants as kind

abbrev pub limit_name : LimitKind → List ℕ
limit_name limit.Source = codes "source"
limit_name limit.Nesting = codes "nesting"
limit_name limit.Slots = codes "slots"
limit_name limit.Frames = codes "frames"
limit_name limit.Ractors = codes "ractors"
limit_name limit.Ledger = codes "ledger"

abbrev pub syntax_name : SyntaxKind → List ℕ
syntax_name kind.Encoding = codes "encoding"
syntax_name kind.Character = codes "character"
syntax_name kind.UnterminatedString = codes "unterminated string"
syntax_name kind.Number = codes "number"
syntax_name kind.UnexpectedToken = codes "unexpected token"
syntax_name kind.UnexpectedEnd = codes "unexpected end"
syntax_name kind.LeftOut = codes "left out"
syntax_name kind.Constant = codes "constant"
