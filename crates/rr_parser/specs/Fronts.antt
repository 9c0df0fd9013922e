-- Where constructs are begun and not ended: what stands before is spelled, and the innermost has just begun.
use Rattle.std.specs.Prelude.{◌≡◌, ℕ, zero, suc, List, Bool, true, false, Option, Some, None}
use Rattle.rr_base.specs.declared.name.Sym.{Sym}
use Rattle.rr_base.specs.declared.name.ClassId.{ClassId}
use Rattle.rr_tree.specs.declared.node.Path.{Path}
use Rattle.rr_tree.specs.Tree.{Tree}
use Rattle.rr_lexer.specs.declared.kind.Token.{Token}
use Rattle.rr_parser.specs.declared.word.Caught.{Caught}
use Rattle.rr_parser.specs.declared.word.Tail.{Tail}
use Rattle.rr_parser.specs.declared.word.Tail.TheVariants as tails
use Rattle.rr_parser.specs.declared.word.Aim.{Aim}
use Rattle.rr_parser.specs.declared.word.Behind.{Behind}
use Rattle.rr_parser.specs.declared.word.Behind.TheVariants as behinds
use Rattle.rr_parser.specs.declared.word.Fence.{Fence}
use Rattle.rr_parser.specs.declared.word.Fence.TheVariants as fences
use Rattle.rr_parser.specs.declared.word.Head.{Head}
use Rattle.rr_parser.specs.declared.word.Head.TheVariants as heads
use Rattle.rr_parser.specs.declared.word.Listed.{Listed}
use Rattle.rr_parser.specs.declared.word.Listed.TheVariants as listings
use Rattle.rr_parser.specs.declared.word.Modifier.{Modifier}
use Rattle.rr_parser.specs.declared.word.Part.{Part}
use Rattle.rr_parser.specs.declared.word.Passing.{Passing}
use Rattle.rr_parser.specs.declared.word.Opening.TheVariants as openings
use Rattle.rr_parser.specs.declared.word.Part.TheVariants as parts
use Rattle.rr_parser.specs.declared.word.WordKind.{WordKind}
use Rattle.rr_parser.specs.declared.word.WordKind.TheVariants as kind
use Rattle.rr_parser.specs.Words.{words_of}
use Rattle.rr_parser.specs.Places.{Place, Look, word, at, next, skip, separators, start}
use Rattle.rr_parser.specs.Grammar.Chains.{Chain, one_of, and_one}
use Rattle.rr_parser.specs.Grammar.Nesting.{Nested}
use Rattle.rr_parser.specs.Grammar.Fences.{Taking, within_head}
use Rattle.rr_parser.specs.Grammar.Names.{name, bracket, command}
use Rattle.rr_parser.specs.declared.word.Sign.{Sign}
use Rattle.rr_parser.specs.Grammar.Operands.{joined, construct_of, tail, order, Spot, Reached, Postfix}
use Rattle.rr_parser.specs.Grammar.Operators.{operator, connective, Binary, Logical}
use Rattle.rr_parser.specs.Grammar.Calls.{sign, target, with_target, label, comma, star, Argument, Given, nothing, only_pairs, Members, Commanded}
use Rattle.rr_parser.specs.Grammar.Several.{plain_sign, Targeted, Targets}
use Rattle.rr_parser.specs.Grammar.Sequences.{Expression, Statement, Rows, Statements, modifier}
use Rattle.rr_parser.specs.Grammar.Interpolations.{text_middle, Pieces}
use Rattle.rr_parser.specs.Grammar.Control.{thens, loops, elsif, looping, Branch, Branches}
use Rattle.rr_parser.specs.Grammar.Bodies.{Classes, caught, with_caught, rescues, Clauses, Rescued}
use Rattle.rr_parser.specs.Grammar.Blocks.{parameters, entered}
use Rattle.rr_parser.specs.Grammar.Classes.{class_head, Methods}
use Rattle.rr_parser.specs.Grammar.Definitions.{method_name, formals, defined}
use Rattle.rr_parser.specs.Grammar.Programs.{Entries}
use Rattle.rr_parser.specs.Grammar.{inside, outside, is_enclosed}
pub use Rattle.rr_parser.specs.Fronts.Inside.{Fronts, ChainFront, in_one, in_more, AcrossFront, in_former, in_latter, TrailFront, in_head, in_tail, TakingFront, EnclosedFront, BlockedFront, in_block, PassedFront, in_passed, in_its_block}
pub mod Inside

abbrev pub CallFront : Nested → Fronts → Place → Place → Type 0
CallFront N F = PassedFront F behinds.Call N.bracketed F.bracketed

pub data PrimaryFront (N : Nested) (F : Fronts) : Place → Place → Type 0 where
  in_construct : {s m z : Place} {k : WordKind} {p : Part} → next s ≡ Some (k, m) → construct_of k ≡ Some p → F.part p m z → PrimaryFront N F s z
  in_call : {s m n z : Place} {x : Sym} {u : Unit {0}} → at name s ≡ Some (x, m) → at bracket m ≡ Some (u, n) → CallFront N F n z → PrimaryFront N F s z
  in_passing : {s m n z : Place} {p : Passing} {u : Unit {0}} → next s ≡ Some (kind.Passing p, m) → at bracket m ≡ Some (u, n) → F.bracketed n z → PrimaryFront N F s z
  in_block_call : {s m z : Place} {x : Sym} → at name s ≡ Some (x, m) → at bracket m ≡ None → BlockedFront F behinds.Call m z → PrimaryFront N F s z

abbrev pub TailedFront : Nested → Fronts → Tail → Reached → Place → Place → Type 0
TailedFront N F (tails.Send x) r s z = BlockedFront F behinds.Call s z
TailedFront N F (tails.Call x) r s z = CallFront N F s z
TailedFront N F tails.Index r s z = F.part parts.Index s z

abbrev pub PostfixFront : Nested → Fronts → Place → Place → Type 0
PostfixFront N F = TrailFront tail (Postfix N) (PrimaryFront N F) (TailedFront N F)

pub data BangFront (N : Nested) (F : Fronts) : Place → Place → Type 0 where
  in_bang : {s m z : Place} → next s ≡ Some (kind.Bang, m) → F.part parts.Bang m z → BangFront N F s z
  behind_no_bang : {s z : Place} → PostfixFront N F s z → BangFront N F s z

pub data MinusFront (N : Nested) (F : Fronts) : Place → Place → Type 0 where
  in_minus : {s m z : Place} → next s ≡ Some (kind.Minus, m) → at joined m ≡ None → F.part parts.Minus m z → MinusFront N F s z
  behind_no_minus : {s z : Place} → BangFront N F s z → MinusFront N F s z

abbrev pub BinaryFront : Nested → Fronts → ℕ → Place → Place → Type 0
BinaryFront N F zero = MinusFront N F
BinaryFront N F (suc level) = ChainFront (operator (suc level)) (Binary N (suc level)) (BinaryFront N F level)

abbrev pub EqualityFront : Nested → Fronts → Place → Place → Type 0
EqualityFront N F = AcrossFront (operator 5) (Binary N 4) (BinaryFront N F 4) (BinaryFront N F 4)

abbrev pub LogicalFront : Nested → Fronts → ℕ → Place → Place → Type 0
LogicalFront N F zero = EqualityFront N F
LogicalFront N F (suc level) = ChainFront (connective (suc level)) (Logical N (suc level)) (LogicalFront N F level)

abbrev pub BranchesOfQuestion : Nested → Fronts → Place → Place → Type 0
BranchesOfQuestion N F = AcrossFront (word kind.Colon) (N.part parts.Branch) (F.part parts.Branch) (F.part parts.Branch)

abbrev pub TernaryFront : Nested → Fronts → Place → Place → Type 0
TernaryFront N F = AcrossFront (word kind.Question) (Logical N 2) (LogicalFront N F 2) (BranchesOfQuestion N F)

-- in the right side of an assignment to an element or an attribute, or in an operand
pub data SettledFront (N : Nested) (F : Fronts) (commands : Bool) : Place → Place → Type 0 where
  in_setting : {s m n z : Place} {r : Reached} {p : Spot} {q : Sign} → Postfix N s r m → r.spot ≡ Some p → at sign m ≡ Some (q, n) → F.value commands n z → SettledFront N F commands s z
  in_no_setting : {s z : Place} → TernaryFront N F s z → SettledFront N F commands s z

pub data AssignedFront (F : Fronts) (commands : Bool) (G : Place → Place → Type 0) : Place → Place → Type 0 where
  in_value : {s n z : Place} {x : Aim} → at target s ≡ Some (x, n) → F.value commands (with_target x.target n) z → AssignedFront F commands G s z
  in_operand : {s z : Place} → G s z → AssignedFront F commands G s z

abbrev pub ArgumentFront : Nested → Fronts → Place → Place → Type 0
ArgumentFront N F = AssignedFront F false (SettledFront N F false)

pub data PairFront (N : Nested) (F : Fronts) : Place → Place → Type 0 where
  behind_label : {s m z : Place} {x : Sym} → at label s ≡ Some (x, m) → ArgumentFront N F m z → PairFront N F s z
  in_entry : {s z : Place} → AcrossFront (word kind.Arrow) (Argument N) (ArgumentFront N F) (ArgumentFront N F) s z → PairFront N F s z

-- in an argument, or in one behind a `*`
pub data ItemFront (N : Nested) (F : Fronts) : Place → Place → Type 0 where
  in_splat : {s m z : Place} → next s ≡ Some (star, m) → ArgumentFront N F m z → ItemFront N F s z
  in_plain_item : {s z : Place} → ArgumentFront N F s z → ItemFront N F s z

-- in a pair; and in an item too, unless only pairs may stand there
pub data MemberFront (N : Nested) (F : Fronts) (only : Bool) : Place → Place → Type 0 where
  in_item : {s z : Place} → only ≡ false → ItemFront N F s z → MemberFront N F only s z
  in_pair : {s z : Place} → PairFront N F s z → MemberFront N F only s z

-- in one member behind those that came
abbrev pub AddingFront : Nested → Fronts → Listed → Unit {0} → Given → Place → Place → Type 0
AddingFront N F k u g = MemberFront N F (only_pairs k g)

abbrev pub MembersFront : Nested → Fronts → Listed → Place → Place → Type 0
MembersFront N F k = TrailFront comma (Members N k) (AddingFront N F k tt nothing) (AddingFront N F k)

pub data CommandedFront (N : Nested) (F : Fronts) : Place → Place → Type 0 where
  in_arguments : {s z : Place} → MembersFront N F listings.Command s z → CommandedFront N F s z
  in_argument_command : {s m z : Place} {x : Head} → at (command s.known) s ≡ Some (x, m) → F.part parts.Command s z → CommandedFront N F s z
  in_argument_order : {s m n z : Place} {r : Reached} {x : Sym} → Postfix N s r m → at order m ≡ Some (x, n) → F.ordered x n z → CommandedFront N F s z

abbrev pub HeadedFront : Nested → Fronts → Head → Place → Place → Type 0
HeadedFront N F x m = PassedFront F (behinds.Command x) (Taking (within_head x m.known.takes_do) (Commanded N)) (TakingFront (within_head x m.known.takes_do) (CommandedFront N F)) m

pub data CommandFront (N : Nested) (F : Fronts) : Place → Place → Type 0 where
  behind_name : {s m z : Place} {x : Head} → at (command s.known) s ≡ Some (x, m) → HeadedFront N F x m z → CommandFront N F s z

pub data PhraseFront (N : Nested) (F : Fronts) : Place → Place → Type 0 where
  in_command : {s z : Place} → CommandFront N F s z → PhraseFront N F s z
  behind_receiver : {s m n z : Place} {r : Reached} {x : Sym} → Postfix N s r m → at order m ≡ Some (x, n) → HeadedFront N F (heads.Call x) n z → PhraseFront N F s z
  in_plain : {s z : Place} → SettledFront N F true s z → PhraseFront N F s z

abbrev pub OperandFront : Nested → Fronts → Bool → Place → Place → Type 0
OperandFront N F false = SettledFront N F false
OperandFront N F true = PhraseFront N F

abbrev pub ValueFront : Nested → Fronts → Bool → Place → Place → Type 0
ValueFront N F commands = AssignedFront F commands (OperandFront N F commands)

pub data NegationFront (N : Nested) (F : Fronts) : Place → Place → Type 0 where
  in_negation : {s m z : Place} → next s ≡ Some (kind.NotWord, m) → F.part parts.Not m z → NegationFront N F s z
  behind_no_negation : {s z : Place} → ValueFront N F true s z → NegationFront N F s z

abbrev pub ExpressionFront : Nested → Fronts → Place → Place → Type 0
ExpressionFront N F = ChainFront (connective 3) (Expression N) (NegationFront N F)

-- in the right side of several targets: in an argument, or in a command
pub data RightsFront (N : Nested) (F : Fronts) : Place → Place → Type 0 where
  in_values : {s z : Place} → ChainFront comma (Chain comma one_of and_one (Argument N)) (ArgumentFront N F) s z → RightsFront N F s z
  in_named : {s z : Place} → CommandFront N F s z → RightsFront N F s z
  in_sent : {s m n z : Place} {r : Reached} {x : Sym} → Postfix N s r m → at order m ≡ Some (x, n) → HeadedFront N F (heads.Call x) n z → RightsFront N F s z

abbrev pub TargetsFront : Nested → Fronts → Place → Place → Type 0
TargetsFront N F = ChainFront comma (Targets N) (PostfixFront N F)

-- in the targets behind the first, in that right side, or in an expression
pub data SimpleFront (N : Nested) (F : Fronts) : Place → Place → Type 0 where
  in_targets : {s m n z : Place} {t : Tree} → Targeted N s t m → next m ≡ Some (kind.Comma, n) → TargetsFront N F n z → SimpleFront N F s z
  in_rights : {s m n o y z : Place} {t : Tree} {l : List Tree} → Targeted N s t m → next m ≡ Some (kind.Comma, n) → Targets N n l o → next o ≡ Some (plain_sign, y) → F.values y z → SimpleFront N F s z
  in_expression : {s z : Place} → ExpressionFront N F s z → SimpleFront N F s z

abbrev pub ModifyingFront : Nested → Fronts → Modifier → Tree → Place → Place → Type 0
ModifyingFront N F x l = ExpressionFront N F

abbrev pub StatementFront : Nested → Fronts → Place → Place → Type 0
StatementFront N F = TrailFront modifier (Statement N) (SimpleFront N F) (ModifyingFront N F)

abbrev pub RowsFront : Nested → Fronts → Place → Place → Type 0
RowsFront N F = ChainFront separators (Rows N) (StatementFront N F)

abbrev pub StatementsFront : Nested → Fronts → Place → Place → Type 0
StatementsFront N F s z = RowsFront N F (skip s) z

abbrev pub PiecesFront : Nested → Fronts → ℕ → Place → Place → Type 0
PiecesFront N F i = ChainFront text_middle (Pieces N i) (StatementsFront N F)

abbrev pub BranchFront : Nested → Fronts → Place → Place → Type 0
BranchFront N F = AcrossFront thens (Expression N) (ExpressionFront N F) (StatementsFront N F)

abbrev pub BranchesFront : Nested → Fronts → Place → Place → Type 0
BranchesFront N F = ChainFront elsif (Branches N) (BranchFront N F)

-- in one part of a construct, or in what is done otherwise
abbrev pub EndedFront : {A : Type 0} → Nested → Fronts → (Place → A → Place → Type 0) → (Place → Place → Type 0) → Place → Place → Type 0
EndedFront N F P G = AcrossFront (word kind.Else) P G (StatementsFront N F)

abbrev pub LoopFront : Nested → Fronts → Place → Place → Type 0
LoopFront N F = AcrossFront loops (Taking false (Expression N)) (TakingFront false (ExpressionFront N F)) (StatementsFront N F)

abbrev pub LoopedFront : Nested → Fronts → Place → Place → Type 0
LoopedFront N F s z = LoopFront N F (looping s) z

pub data ClauseFront (N : Nested) (F : Fronts) : Place → Place → Type 0 where
  in_clause : {s m n z : Place} {l : List Tree} {x : Option Caught} → Classes s l m → at caught m ≡ Some (x, n) → StatementsFront N F (with_caught x n) z → ClauseFront N F s z

abbrev pub ClausesFront : Nested → Fronts → Place → Place → Type 0
ClausesFront N F = ChainFront rescues (Clauses N) (ClauseFront N F)

abbrev pub RescuedFront : Nested → Fronts → Place → Place → Type 0
RescuedFront N F = AcrossFront rescues (Statements N) (StatementsFront N F) (EndedFront N F (Clauses N) (ClausesFront N F))

abbrev pub BodyFront : Nested → Fronts → Place → Place → Type 0
BodyFront N F = AcrossFront (word kind.Ensure) (Rescued N) (RescuedFront N F) (StatementsFront N F)

abbrev pub HeldFront : Nested → Fronts → Fence → Place → Place → Type 0
HeldFront N F fences.Brace = StatementsFront N F
HeldFront N F fences.Do = BodyFront N F

pub data BlockFront (N : Nested) (F : Fronts) (f : Fence) : Place → Place → Type 0 where
  in_body : {s m z : Place} {xs : List Sym} → at parameters s ≡ Some (xs, m) → HeldFront N F f (entered xs m) z → BlockFront N F f s z

pub data DefinitionFront (N : Nested) (F : Fronts) : Place → Place → Type 0 where
  in_method : {s m n z : Place} {x : Sym} {xs : List Sym} → at method_name s ≡ Some (x, m) → at formals m ≡ Some (xs, n) → BodyFront N F (defined xs n) z → DefinitionFront N F s z

-- in the definition of a method of a class
pub data MethodFront (F : Fronts) : Place → Place → Type 0 where
  in_method_definition : {s m z : Place} → next s ≡ Some (kind.Def, m) → F.part parts.Definition m z → MethodFront F s z

-- in a member of a class
pub data ClassFront (N : Nested) (F : Fronts) : Place → Place → Type 0 where
  in_methods : {s m z : Place} {u : Unit {0}} → at separators s ≡ Some (u, m) → ChainFront separators (Methods N) (MethodFront F) m z → ClassFront N F s z

-- in a part, without its own say about `do`
abbrev pub FormFront : Nested → Fronts → Part → Place → Place → Type 0
FormFront N F parts.Group = StatementsFront N F
FormFront N F parts.Choice = EndedFront N F (Branches N) (BranchesFront N F)
FormFront N F parts.Unless = EndedFront N F (Branch N) (BranchFront N F)
FormFront N F (parts.Loop until) = LoopedFront N F
FormFront N F parts.Array = MembersFront N F listings.Array
FormFront N F parts.Hash = MembersFront N F listings.Hash
FormFront N F parts.Index = ArgumentFront N F
FormFront N F parts.Begin = BodyFront N F
FormFront N F parts.Minus = MinusFront N F
FormFront N F parts.Bang = BangFront N F
FormFront N F parts.Not = NegationFront N F
FormFront N F parts.Command = CommandFront N F
FormFront N F parts.Branch = ArgumentFront N F
FormFront N F (parts.Interpolation i) = PiecesFront N F i
FormFront N F (parts.Block f) = BlockFront N F f
FormFront N F parts.Definition = DefinitionFront N F
FormFront N F (parts.Class x c) = ClassFront N F

abbrev pub PartFront : Nested → Fronts → Part → Place → Place → Type 0
PartFront N F p = EnclosedFront (is_enclosed p) (FormFront N F p)

-- Inside the right side of an assignment so many constructs more are begun, and then one that has just begun.
unfoldable pub fronts_inside : ℕ → Fronts
fronts_inside zero = record { part = λ p s z. s ≡ z; bracketed = λ s z. s ≡ z; ordered = λ x s z. s ≡ z; value = λ b s z. s ≡ z; values = λ s z. s ≡ z }
fronts_inside (suc d) = record { part = PartFront (inside d) (fronts_inside d); bracketed = TakingFront true (MembersFront (inside d) (fronts_inside d) listings.Call); ordered = λ x. HeadedFront (inside d) (fronts_inside d) (heads.Call x); value = ValueFront (inside d) (fronts_inside d); values = RightsFront (inside d) (fronts_inside d) }

-- The same outside of all right sides. A right side there does not count.
unfoldable pub fronts_outside : ℕ → Fronts
fronts_outside zero = record { part = λ p s z. s ≡ z; bracketed = λ s z. s ≡ z; ordered = λ x s z. s ≡ z; value = ValueFront (inside zero) (fronts_inside zero); values = RightsFront (inside zero) (fronts_inside zero) }
fronts_outside (suc d) = record { part = PartFront (outside d) (fronts_outside d); bracketed = TakingFront true (MembersFront (outside d) (fronts_outside d) listings.Call); ordered = λ x. HeadedFront (outside d) (fronts_outside d) (heads.Call x); value = ValueFront (inside (suc d)) (fronts_inside (suc d)); values = RightsFront (inside (suc d)) (fronts_inside (suc d)) }

-- in a row of a program
pub data RowFront (N : Nested) (F : Fronts) : Place → Place → Type 0 where
  in_definition : {s m z : Place} → next s ≡ Some (kind.Def, m) → F.part parts.Definition m z → RowFront N F s z
  in_class : {s m n z : Place} {c : ClassId} {x : Sym × Option Path} → next s ≡ Some (kind.Class (openings.Below c), m) → at class_head m ≡ Some (x, n) → F.part (parts.Class x.0 c) n z → RowFront N F s z
  in_statement : {s z : Place} → StatementFront N F s z → RowFront N F s z

abbrev pub ProgramFront : Nested → Fronts → Place → Place → Type 0
ProgramFront N F s z = ChainFront separators (Entries N) (RowFront N F) (skip s) z

-- from the first word on, more constructs than the number are begun at some place and not ended there
abbrev pub NestsBeyond : ℕ → List ℕ → List Token → Type 0
NestsBeyond d source tokens = (z : Place) × ProgramFront (outside d) (fronts_outside d) (start (words_of source tokens)) z
