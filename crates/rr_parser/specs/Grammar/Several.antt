-- Assignments to several targets: the targets, and the right side.
use Rattle.std.specs.Prelude.{◌≡◌, true, List, Option, Some, None}
use Rattle.rr_base.specs.declared.name.Sym.{Sym}
use Rattle.rr_tree.specs.Tree.{Tree, multiple_assign, listed}
use Rattle.rr_parser.specs.declared.word.Sign.TheVariants as signs
use Rattle.rr_parser.specs.declared.word.Target.{Target}
use Rattle.rr_parser.specs.declared.word.WordKind.{WordKind}
use Rattle.rr_parser.specs.declared.word.WordKind.TheVariants as kind
use Rattle.rr_parser.specs.declared.word.Word.{Word}
use Rattle.rr_parser.specs.Places.{Place, Look, at}
use Rattle.rr_parser.specs.Grammar.Chains.{Chain, one_of, and_one}
use Rattle.rr_parser.specs.Grammar.Nesting.{Nested}
use Rattle.rr_parser.specs.Grammar.Names.{told_behind, one_value}
use Rattle.rr_parser.specs.Grammar.Operands.{order, Reached, Postfix, Spot}
use Rattle.rr_parser.specs.Grammar.Calls.{target_word, is_settable, with_target, target_tree, target_variable, comma, Argument, Command, Ordered}

abbrev pub past_target : Option (Target × List Word) → Option (Unit {0} × List Word)
past_target None = None
past_target (Some x) = comma x.1

-- a target that is a word, and a comma
abbrev pub several : Look (Unit {0})
several ws = past_target (target_word ws)

-- the sign between several targets and their right side
abbrev pub plain_sign : WordKind
plain_sign = kind.Assign signs.Plain

-- A target, as what reads it: a word, where a variable is known from there on; or an element or an attribute.
pub data Targeted (N : Nested) : Place → Tree → Place → Type 0 where
  a_target : {s m : Place} {x : Target} → at target_word s ≡ Some (x, m) → is_settable x m.known ≡ true → Targeted N s (target_tree x (target_variable x (with_target x m)) (told_behind m.rest)) (with_target x m)
  a_spot : {s z : Place} {r : Reached} {p : Spot} → Postfix N s r z → r.spot ≡ Some p → Targeted N s r.tree z

-- targets with commas between them
abbrev pub Targets : Nested → Place → List Tree → Place → Type 0
Targets N = Chain comma one_of and_one (Targeted N)

-- The right side of several targets: arguments with commas between them, as one value; or a command.
pub data Rights (N : Nested) : Place → Tree → Place → Type 0 where
  by_values : {s z : Place} {l : List Tree} → Chain comma one_of and_one (Argument N) s l z → Rights N s (one_value l) z
  by_named : {s z : Place} {t : Tree} → Command N s t z → Rights N s t z
  -- a command with a receiver
  by_sent : {s m n z : Place} {r : Reached} {x : Sym} {t : Tree} → Postfix N s r m → at order m ≡ Some (x, n) → Ordered N r.tree x n t z → Rights N s t z

-- the tree of an assignment to several targets
abbrev pub assigned_to_several : List Tree → Tree → Tree
assigned_to_several l t = multiple_assign (listed l) t
