-- Operators between two operands.
use Rattle.std.specs.Prelude.{◌≡◌, ℕ, zero, suc, ◌==◌, Option, Some, None, if◌then◌else◌}
use Rattle.rr_tree.specs.declared.node.BinaryOperator.{BinaryOperator}
use Rattle.rr_tree.specs.declared.node.BinaryOperator.TheVariants as op
use Rattle.rr_tree.specs.Tree.{Tree, binary, append, logical_and, logical_or, choose}
use Rattle.rr_parser.specs.declared.word.Infix.{Infix}
use Rattle.rr_parser.specs.declared.word.Infix.TheVariants as infixes
use Rattle.rr_parser.specs.declared.word.Connective.{Connective}
use Rattle.rr_parser.specs.declared.word.Connective.TheVariants as connectives
use Rattle.rr_parser.specs.declared.word.Part.TheVariants as parts
use Rattle.rr_parser.specs.declared.word.WordKind.{WordKind}
use Rattle.rr_parser.specs.declared.word.WordKind.TheVariants as kind
use Rattle.rr_parser.specs.Places.{Place, Look, first_as, at, next}
use Rattle.rr_parser.specs.Grammar.Chains.{Chain, same}
use Rattle.rr_parser.specs.Grammar.Nesting.{Nested}
use Rattle.rr_parser.specs.Grammar.Operands.{Minus}

abbrev pub level_of_binary : BinaryOperator → ℕ
level_of_binary op.Multiply = 1
level_of_binary op.Divide = 1
level_of_binary op.Remainder = 1
level_of_binary op.Add = 2
level_of_binary op.Subtract = 2
level_of_binary op.Less = 4
level_of_binary op.LessOrEqual = 4
level_of_binary op.Greater = 4
level_of_binary op.GreaterOrEqual = 4
level_of_binary op.Compare = 5
level_of_binary op.Equal = 5
level_of_binary op.NotEqual = 5

-- the levels of operators, the tightest first; the last one does not associate
abbrev pub level_of : Infix → ℕ
level_of (infixes.Binary o) = level_of_binary o
level_of infixes.Append = 3

abbrev pub at_level : ℕ → Infix → Option Infix
at_level level o = if level_of o == level then Some o else None

-- the operator of a level that a word is
abbrev pub operator_of : ℕ → WordKind → Option Infix
operator_of level (kind.Operator o) = at_level level o
operator_of level kind.Minus = at_level level (infixes.Binary op.Subtract)
operator_of level _ = None

-- an operator of a level
abbrev pub operator : ℕ → Look Infix
operator level = first_as (λ w. operator_of level w.kind)

abbrev pub infixed : Infix → Tree → Tree → Tree
infixed (infixes.Binary o) l r = binary o l r
infixed infixes.Append l r = append l r

-- products are level 1, sums level 2, what is appended level 3 and comparisons by order level 4
abbrev pub Binary : Nested → ℕ → Place → Tree → Place → Type 0
Binary N zero = Minus N
Binary N (suc level) = Chain (operator (suc level)) same infixed (Binary N level)

pub data Equality (N : Nested) : Place → Tree → Place → Type 0 where
  a_comparison : {s z : Place} {t : Tree} → Binary N 4 s t z → Equality N s t z
  a_pair : {s m n z : Place} {l r : Tree} {o : Infix} → Binary N 4 s l m → at (operator 5) m ≡ Some (o, n) → Binary N 4 n r z → Equality N s (infixed o l r) z

-- ---- conditions

abbrev pub where_level : {X : Type 0} → ℕ → ℕ → X → Option X
where_level wanted level x = if wanted == level then Some x else None

-- what joins conditions at a level that a word is: `&&` is level 1, `||` level 2, and the words `and` and `or` are level 3
abbrev pub connective_of : ℕ → WordKind → Option Connective
connective_of level kind.And = where_level 1 level connectives.And
connective_of level kind.Or = where_level 2 level connectives.Or
connective_of level kind.AndWord = where_level 3 level connectives.And
connective_of level kind.OrWord = where_level 3 level connectives.Or
connective_of level _ = None

abbrev pub connective : ℕ → Look Connective
connective level = first_as (λ w. connective_of level w.kind)

abbrev pub joined_by : Connective → Tree → Tree → Tree
joined_by connectives.And l r = logical_and l r
joined_by connectives.Or l r = logical_or l r

-- conditions joined by `&&` are level 1, and those joined by `||` level 2
abbrev pub Logical : Nested → ℕ → Place → Tree → Place → Type 0
Logical N zero = Equality N
Logical N (suc level) = Chain (connective (suc level)) same joined_by (Logical N level)

-- a choice between two operands
pub data Ternary (N : Nested) : Place → Tree → Place → Type 0 where
  no_question : {s z : Place} {t : Tree} → Logical N 2 s t z → Ternary N s t z
  a_question : {s m n o y z : Place} {c t e : Tree} → Logical N 2 s c m → next m ≡ Some (kind.Question, n) → N.part parts.Branch n t o → next o ≡ Some (kind.Colon, y) → N.part parts.Branch y e z
      → Ternary N s (choose c t e) z
