-- Expressions and statements.
use Rattle.std.specs.Prelude.{◌≡◌, List, [], true, Option, Some, None, ◌∷◌}
use Rattle.rr_tree.specs.Tree.{Tree, nil, choose, repeat, sequence, logical_not, listed}
use Rattle.rr_parser.specs.declared.word.Modifier.{Modifier}
use Rattle.rr_parser.specs.declared.word.Modifier.TheVariants as modifiers
use Rattle.rr_parser.specs.declared.word.Part.TheVariants as parts
use Rattle.rr_parser.specs.declared.word.WordKind.{WordKind}
use Rattle.rr_parser.specs.declared.word.WordKind.TheVariants as kind
use Rattle.rr_parser.specs.Places.{Place, Look, first_as, next, skip, separators}
use Rattle.rr_parser.specs.Grammar.Chains.{Chain, Trail, same, one_of, and_one}
use Rattle.rr_parser.specs.Grammar.Nesting.{Nested}
use Rattle.rr_parser.specs.Grammar.Operators.{connective, joined_by}
use Rattle.rr_parser.specs.Grammar.Calls.{Value}
use Rattle.rr_parser.specs.Grammar.Several.{plain_sign, Targeted, Targets, assigned_to_several}

pub data Negation (N : Nested) : Place → Tree → Place → Type 0 where
  a_negation : {s m z : Place} {t : Tree} → next s ≡ Some (kind.NotWord, m) → N.part parts.Not m t z → Negation N s (logical_not t) z
  no_negation : {s z : Place} {t : Tree} → Value N true s t z → Negation N s t z

-- values joined by the words `and` and `or`
abbrev pub Expression : Nested → Place → Tree → Place → Type 0
Expression N = Chain (connective 3) same joined_by (Negation N)

-- An assignment to several targets, or an expression. The targets are known on the right side already.
pub data Simple (N : Nested) : Place → Tree → Place → Type 0 where
  to_several : {s m n o y z : Place} {t v : Tree} {l : List Tree} → Targeted N s t m → next m ≡ Some (kind.Comma, n) → Targets N n l o → next o ≡ Some (plain_sign, y) → N.values y v z → Simple N s (assigned_to_several (t ∷ l) v) z
  no_several : {s z : Place} {t : Tree} → Expression N s t z → Simple N s t z

abbrev pub modifier_of : WordKind → Option Modifier
modifier_of kind.If = Some modifiers.If
modifier_of kind.Unless = Some modifiers.Unless
modifier_of (kind.Loop until) = Some (modifiers.Loop until)
modifier_of _ = None

abbrev pub modifier : Look Modifier
modifier = first_as (λ w. modifier_of w.kind)

-- what is done, and when
abbrev pub modified : Modifier → Tree → Tree → Tree
modified modifiers.If t c = choose c t nil
modified modifiers.Unless t c = choose c nil t
modified (modifiers.Loop until) t c = repeat until c t

-- what is done, with the condition behind a modifier
pub data Modifying (N : Nested) (x : Modifier) (l : Tree) : Place → Tree → Place → Type 0 where
  by_condition : {s z : Place} {c : Tree} → Expression N s c z → Modifying N x l s (modified x l c) z

-- what is done, and modifiers behind it
abbrev pub Statement : Nested → Place → Tree → Place → Type 0
Statement N = Trail modifier (Simple N) (Modifying N)

-- statements with separators between them
abbrev pub Rows : Nested → Place → List Tree → Place → Type 0
Rows N = Chain separators one_of and_one (Statement N)

-- Separators may stand before and behind them too.
pub data Statements (N : Nested) : Place → Tree → Place → Type 0 where
  no_statements : {s : Place} → Statements N s (sequence (listed [])) (skip s)
  some_statements : {s m : Place} {l : List Tree} → Rows N (skip s) l m → Statements N s (sequence (listed l)) (skip m)

-- statements between brackets
pub data Group (N : Nested) : Place → Tree → Place → Type 0 where
  a_group : {s m z : Place} {t : Tree} → Statements N s t m → next m ≡ Some (kind.Close, z) → Group N s t z
