-- Operands.
use Rattle.std.specs.Prelude.{◌≡◌, ℕ, zero, suc, ℤ, pos, negsuc, nat_lt, nat_le, List, Bool, true, false, Option, Some, None, if◌then◌else◌, []}
use Rattle.rr_base.specs.declared.name.Sym.{Sym}
use Rattle.rr_tree.specs.Tree.{Tree, nil, truth, int, text, bare, call, send, with_block, index, symbol, constant, field, global, itself, negate, logical_not, listed}
use Rattle.rr_parser.specs.declared.word.WordKind.{WordKind}
use Rattle.rr_parser.specs.declared.word.WordKind.TheVariants as kind
use Rattle.rr_parser.specs.declared.word.Naming.{Naming}
use Rattle.rr_parser.specs.declared.word.Naming.TheVariants as namings
use Rattle.rr_parser.specs.declared.word.Jump.{Jump}
use Rattle.rr_parser.specs.declared.word.Passing.{Passing}
use Rattle.rr_parser.specs.declared.word.Part.{Part}
use Rattle.rr_parser.specs.declared.word.Part.TheVariants as parts
use Rattle.rr_parser.specs.declared.word.Tail.{Tail}
use Rattle.rr_parser.specs.declared.word.Tail.TheVariants as tails
use Rattle.rr_parser.specs.declared.word.Word.{Word}
use Rattle.rr_parser.specs.declared.word.Behind.{Behind}
use Rattle.rr_parser.specs.declared.word.Behind.TheVariants as behinds
use Rattle.rr_parser.specs.declared.word.Fence.{Fence}
use Rattle.rr_tree.specs.declared.node.Path.TheVariants as paths
use Rattle.rr_parser.specs.Places.{Place, Look, where_true, is_kind, word, tight_as, at, next}
use Rattle.rr_parser.specs.Grammar.Chains.{Trail}
use Rattle.rr_parser.specs.Grammar.Nesting.{Nested}
use Rattle.rr_parser.specs.Grammar.Fences.{opened}
use Rattle.rr_parser.specs.Grammar.Names.{is_local, variable_of, told_behind, local_tree, is_allowed, jump_tree, begins_arguments, passed, passed_bare, name, bracket, begins_operands}

-- ---- integers

-- an integer below 2 ^ 63
abbrev pub fits : ℕ → Bool
fits n = nat_lt n 9223372036854775808

-- an integer of at most 2 ^ 63, which fits with a minus before it
abbrev pub fits_below : ℕ → Bool
fits_below n = nat_le n 9223372036854775808

abbrev pub negated : ℕ → ℤ
negated zero = pos zero
negated (suc n) = negsuc n

abbrev pub int_of_kind : WordKind → Option ℕ
int_of_kind (kind.Int n) = Some n
int_of_kind _ = None

-- the integer that stands there with no blank before it
abbrev pub joined : Look ℕ
joined = tight_as int_of_kind

-- ---- the productions

-- the tree of a word that stands for itself
abbrev pub literal_of : WordKind → Option Tree
literal_of (kind.Int n) = if fits n then Some (int (pos n)) else None
literal_of (kind.Text i) = Some (text i)
literal_of kind.Nil = Some nil
literal_of (kind.Truth b) = Some (truth b)
literal_of (kind.Symbol x) = Some (symbol x.0)
literal_of (kind.Field x) = Some (field x.0)
literal_of (kind.Global x) = Some (global x.0)
literal_of kind.Itself = Some itself
literal_of _ = None

abbrev pub constant_of_kind : WordKind → Option Sym
constant_of_kind (kind.Constant x outer) = Some x
constant_of_kind _ = None

-- `::` with no blank before it
abbrev pub scope_sign : Look (Unit {0})
scope_sign = tight_as (λ k. where_true (is_kind k kind.Path))

-- a constant with no blank before it
abbrev pub tight_constant : Look Sym
tight_constant = tight_as constant_of_kind

abbrev pub behind_sign : Option (Unit {0} × List Word) → Option (Sym × List Word)
behind_sign None = None
behind_sign (Some r) = tight_constant r.1

-- `::` and a constant, directly behind a constant that has others
abbrev pub inner_constant : Naming → Look Sym
inner_constant namings.Ractor ws = behind_sign (scope_sign ws)
inner_constant namings.Class ws = None
inner_constant namings.Free ws = None
inner_constant namings.Opened ws = None

-- the construct that a word begins
abbrev pub construct_of : WordKind → Option Part
construct_of kind.Open = Some parts.Group
construct_of kind.OpenSquare = Some parts.Array
construct_of kind.OpenBrace = Some parts.Hash
construct_of kind.If = Some parts.Choice
construct_of kind.Unless = Some parts.Unless
construct_of (kind.Loop until) = Some (parts.Loop until)
construct_of kind.Begin = Some parts.Begin
construct_of (kind.TextHead i) = Some (parts.Interpolation i)
construct_of _ = None

-- a call or a command, with the block that stands behind it
pub data Blocked (N : Nested) (q : Behind) (c : Tree) : Place → Tree → Place → Type 0 where
  no_block : {s : Place} → opened q s ≡ None → Blocked N q c s c s
  a_block : {s m z : Place} {f : Fence} {b : Tree} → opened q s ≡ Some (f, m) → N.part (parts.Block f) m b z → Blocked N q c s (with_block c b) z

pub data Primary (N : Nested) : Place → Tree → Place → Type 0 where
  a_literal : {s z : Place} {k : WordKind} {t : Tree} → next s ≡ Some (k, z) → literal_of k ≡ Some t → Primary N s t z
  a_constant : {s z : Place} {x : Sym} {outer : Naming} → next s ≡ Some (kind.Constant x outer, z) → at (inner_constant outer) z ≡ None → Primary N s (constant (paths.Plain x)) z
  a_path : {s m z : Place} {x y : Sym} {outer : Naming} → next s ≡ Some (kind.Constant x outer, m) → at (inner_constant outer) m ≡ Some (y, z) → Primary N s (constant (paths.Ractor y)) z
  a_negative : {s m z : Place} {n : ℕ} → next s ≡ Some (kind.Minus, m) → at joined m ≡ Some (n, z) → fits_below n ≡ true → Primary N s (int (negated n)) z
  a_local : {s z : Place} {x : Sym} → at name s ≡ Some (x, z) → at bracket z ≡ None → opened behinds.Call z ≡ None → is_local x z ≡ true → Primary N s (local_tree x (variable_of x z) (told_behind z.rest)) z
  -- a call with no arguments
  a_bare_call : {s z : Place} {x : Sym} → at name s ≡ Some (x, z) → at bracket z ≡ None → opened behinds.Call z ≡ None → is_local x z ≡ false → begins_operands z.rest ≡ false → Primary N s (bare x.0) z
  -- a call with arguments in brackets
  a_call : {s m n o z : Place} {x : Sym} {u : Unit {0}} {l : List Tree} {t : Tree} → at name s ≡ Some (x, m) → at bracket m ≡ Some (u, n) → N.bracketed n l o → Blocked N behinds.Call (call x.0 (listed l)) o t z → Primary N s t z
  -- a call with a block alone
  a_block_call : {s m n z : Place} {x : Sym} {f : Fence} {b : Tree} → at name s ≡ Some (x, m) → at bracket m ≡ None → opened behinds.Call m ≡ Some (f, n) → N.part (parts.Block f) n b z → Primary N s (with_block (call x.0 (listed [])) b) z
  -- a jump without a value
  a_jump : {s z : Place} {j : Jump} → next s ≡ Some (kind.Jump j, z) → is_allowed j z.known ≡ true → begins_arguments z.rest ≡ false → Primary N s (jump_tree j nil) z
  -- `yield` or `super` alone, in a method
  a_passing : {s z : Place} {p : Passing} → next s ≡ Some (kind.Passing p, z) → z.known.in_method ≡ true → at bracket z ≡ None → begins_operands z.rest ≡ false → Primary N s (passed_bare p) z
  -- the same with arguments in brackets
  a_passing_call : {s m n z : Place} {p : Passing} {u : Unit {0}} {l : List Tree} → next s ≡ Some (kind.Passing p, m) → m.known.in_method ≡ true → at bracket m ≡ Some (u, n) → N.bracketed n l z → Primary N s (passed p (listed l)) z
  a_construct : {s m z : Place} {k : WordKind} {p : Part} {t : Tree} → next s ≡ Some (k, m) → construct_of k ≡ Some p → N.part p m t z → Primary N s t z

-- ---- what follows an operand

abbrev pub square : Look (Unit {0})
square = tight_as (λ k. where_true (is_kind k kind.OpenSquare))

abbrev pub called : Sym → List Word → Option (Unit {0} × List Word) → Option (Tail × List Word)
called x ws (Some r) = Some (tails.Call x, r.1)
called x ws None = if begins_operands ws then None else Some (tails.Send x, ws)

abbrev pub sent : Option (Sym × List Word) → Option (Tail × List Word)
sent None = None
sent (Some x) = called x.0 x.1 (bracket x.1)

abbrev pub indexed : Option (Unit {0} × List Word) → Option (Tail × List Word)
indexed None = None
indexed (Some r) = Some (tails.Index, r.1)

abbrev pub behind_dot : List Word → Option (Unit {0} × List Word) → Option (Tail × List Word)
behind_dot ws None = indexed (square ws)
behind_dot ws (Some r) = sent (name r.1)

-- A dot and a name, unless operands follow, which make a command of it; or a bracket with no blank before it.
abbrev pub tail : Look Tail
tail ws = behind_dot ws (word kind.Dot ws)

abbrev pub before_operands : Option (Sym × List Word) → Option (Sym × List Word)
before_operands None = None
before_operands (Some x) = if begins_operands x.1 then Some (x.0, x.1) else None

abbrev pub order_behind : Option (Unit {0} × List Word) → Option (Sym × List Word)
order_behind None = None
order_behind (Some r) = before_operands (name r.1)

-- A dot and the name of a call that operands follow: what stands before it is the receiver of a command.
abbrev pub order : Look Sym
order ws = order_behind (word kind.Dot ws)

-- what stands behind an operand and can be assigned to: an element, or an attribute
pub data Spot : Type 0 where
  element : Tree → Tree → Spot
  attribute : Tree → Sym → Spot

-- what is read: its tree, and how it can be assigned to, if it can
pub record Reached : Type 0 where
  pub tree : Tree
  pub spot : Option Spot

abbrev pub plain : Tree → Reached
plain t = record { tree = t; spot = None }

abbrev pub at_element : Tree → Tree → Reached
at_element r i = record { tree = index r i; spot = Some (element r i) }

abbrev pub at_attribute : Tree → Sym → Reached
at_attribute r x = record { tree = send r x.0 (listed []); spot = Some (attribute r x) }

-- a P, which cannot be assigned to so
pub data Plain (P : Place → Tree → Place → Type 0) : Place → Reached → Place → Type 0 where
  as_it_is : {s z : Place} {t : Tree} → P s t z → Plain P s (plain t) z

-- what an operand and what follows it make
pub data Tailed (N : Nested) : Tail → Reached → Place → Reached → Place → Type 0 where
  an_attribute : {s : Place} {x : Sym} {r : Reached} → opened behinds.Call s ≡ None → Tailed N (tails.Send x) r s (at_attribute r.tree x) s
  a_block_send : {s m z : Place} {x : Sym} {r : Reached} {f : Fence} {b : Tree} → opened behinds.Call s ≡ Some (f, m) → N.part (parts.Block f) m b z → Tailed N (tails.Send x) r s (plain (with_block (send r.tree x.0 (listed [])) b)) z
  a_sent_call : {s m z : Place} {x : Sym} {r : Reached} {t : Tree} {l : List Tree} → N.bracketed s l m → Blocked N behinds.Call (send r.tree x.0 (listed l)) m t z → Tailed N (tails.Call x) r s (plain t) z
  an_index : {s z : Place} {r : Reached} {i : Tree} → N.part parts.Index s i z → Tailed N tails.Index r s (at_element r.tree i) z

abbrev pub Postfix : Nested → Place → Reached → Place → Type 0
Postfix N = Trail tail (Plain (Primary N)) (Tailed N)

pub data Bang (N : Nested) : Place → Tree → Place → Type 0 where
  a_bang : {s m z : Place} {t : Tree} → next s ≡ Some (kind.Bang, m) → N.part parts.Bang m t z → Bang N s (logical_not t) z
  no_bang : {s z : Place} {r : Reached} → Postfix N s r z → Bang N s r.tree z

pub data Minus (N : Nested) : Place → Tree → Place → Type 0 where
  a_minus : {s m z : Place} {t : Tree} → next s ≡ Some (kind.Minus, m) → at joined m ≡ None → N.part parts.Minus m t z → Minus N s (negate t) z
  no_minus : {s z : Place} {t : Tree} → Bang N s t z → Minus N s t z
