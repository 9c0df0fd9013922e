-- Assignments, arguments and commands.
use Rattle.std.specs.Prelude.{◌≡◌, ℕ, List, ◌∷◌, ◌++◌, Bool, true, false, not, Option, Some, None, []}
use Rattle.rr_base.specs.declared.name.Sym.{Sym}
use Rattle.rr_tree.specs.Tree.{Tree, field, global, constant, set_constant, operator_assign, append_assign, or_assign, and_assign, assign, set_field, set_global, set_index, set_attribute, symbol, array, hash, pairs, send, splat, pair, listed}
use Rattle.rr_tree.specs.declared.node.BinaryOperator.TheVariants as op
use Rattle.rr_parser.specs.declared.word.WordKind.TheVariants as kind
use Rattle.rr_parser.specs.declared.word.Word.{Word}
use Rattle.rr_parser.specs.declared.word.WordKind.{WordKind}
use Rattle.rr_parser.specs.declared.word.Connective.TheVariants as connectives
use Rattle.rr_parser.specs.declared.word.Infix.TheVariants as infixes
use Rattle.rr_parser.specs.declared.word.Operation.{Operation}
use Rattle.rr_parser.specs.declared.word.Operation.TheVariants as operations
use Rattle.rr_parser.specs.declared.word.Behind.TheVariants as behinds
use Rattle.rr_parser.specs.declared.word.Head.{Head}
use Rattle.rr_parser.specs.declared.word.Head.TheVariants as heads
use Rattle.rr_parser.specs.declared.word.Sign.{Sign}
use Rattle.rr_parser.specs.declared.word.Sign.TheVariants as signs
use Rattle.rr_parser.specs.declared.word.Aim.{Aim}
use Rattle.rr_parser.specs.declared.word.Target.{Target}
use Rattle.rr_parser.specs.declared.word.Target.TheVariants as targets
use Rattle.rr_parser.specs.declared.word.NameKind.TheVariants as name_kinds
use Rattle.rr_parser.specs.declared.word.Naming.TheVariants as namings
use Rattle.rr_tree.specs.declared.node.Path.TheVariants as paths
use Rattle.rr_parser.specs.declared.word.Listed.{Listed}
use Rattle.rr_parser.specs.declared.word.Listed.TheVariants as listings
use Rattle.rr_parser.specs.declared.word.Part.TheVariants as parts
use Rattle.rr_parser.specs.Places.{Known, Place, Look, first_as, word, at, next}
use Rattle.rr_parser.specs.Grammar.Chains.{Trail}
use Rattle.rr_parser.specs.Grammar.Nesting.{Nested}
use Rattle.rr_parser.specs.Grammar.Fences.{Taking, within_head}
use Rattle.rr_parser.specs.declared.variables.Variable.{Variable}
use Rattle.rr_parser.specs.Grammar.Names.{variable_of, told_behind, local_tree, with_local, headed, command}
use Rattle.rr_parser.specs.Grammar.Operands.{order, Blocked, Spot, element, attribute, Reached, Postfix}
use Rattle.rr_parser.specs.Grammar.Operators.{Ternary}

-- what is assigned to
abbrev pub target_of_kind : WordKind → Option Target
target_of_kind (kind.Name x name_kinds.Marked) = None
target_of_kind (kind.Name x k) = Some (targets.Variable x)
target_of_kind (kind.Field x) = Some (targets.Field x)
target_of_kind (kind.Global x) = Some (targets.Global x)
target_of_kind (kind.Constant x n) = Some (targets.Constant x n)
target_of_kind _ = None

abbrev pub sign_of_kind : WordKind → Option Sign
sign_of_kind (kind.Assign q) = Some q
sign_of_kind _ = None

-- the sign of an assignment
abbrev pub sign : Look Sign
sign = first_as (λ w. sign_of_kind w.kind)

abbrev pub assigned : Target → ℕ → Option (Sign × List Word) → Option (Aim × List Word)
assigned x n None = None
assigned x n (Some r) = Some (record { target = x; sign = r.0; behind = n }, r.1)

abbrev pub named : Option (Target × List Word) → Option (Aim × List Word)
named None = None
named (Some x) = assigned x.0 (told_behind x.1) (sign x.1)

abbrev pub target_word : Look Target
target_word = first_as (λ w. target_of_kind w.kind)

-- what is assigned to, the sign of the assignment, and how many words stand behind the target
abbrev pub target : Look Aim
target ws = named (target_word ws)

-- the place where the target is known
abbrev pub with_target : Target → Place → Place
with_target (targets.Variable x) s = with_local x s
with_target (targets.Field x) s = s
with_target (targets.Global x) s = s
with_target (targets.Constant x n) s = s

-- a constant is set outside of methods, unless a class has its name
abbrev pub is_settable : Target → Known → Bool
is_settable (targets.Variable x) k = true
is_settable (targets.Field x) k = true
is_settable (targets.Global x) k = true
is_settable (targets.Constant x namings.Free) k = not k.in_method
is_settable (targets.Constant x namings.Class) k = false
is_settable (targets.Constant x namings.Ractor) k = false
is_settable (targets.Constant x namings.Opened) k = false

-- the target as what reads it, where a local variable is seen so, and so many words stand behind it
abbrev pub target_tree : Target → Variable → ℕ → Tree
target_tree (targets.Variable x) v n = local_tree x v n
target_tree (targets.Field x) v n = field x.0
target_tree (targets.Global x) v n = global x.0
target_tree (targets.Constant x k) v n = constant (paths.Plain x)

abbrev pub set_target : Target → Variable → ℕ → Tree → Tree
set_target (targets.Variable x) v n t = assign v.depth v.slot x.0 n t
set_target (targets.Field x) v n t = set_field x.0 t
set_target (targets.Global x) v n t = set_global x.0 t
set_target (targets.Constant x k) v n t = set_constant x.0 t

-- an assignment with an operator, to what is read so
abbrev pub operated : Operation → Tree → Tree → Tree
operated (operations.Infix (infixes.Binary o)) x t = operator_assign o x t
operated (operations.Infix infixes.Append) x t = append_assign x t
operated (operations.Connective connectives.Or) x t = or_assign x t
operated (operations.Connective connectives.And) x t = and_assign x t

-- the tree of an assignment, where a local variable is seen so, and so many words stand behind it
abbrev pub signed : Sign → Target → Variable → ℕ → Tree → Tree
signed signs.Plain x v n t = set_target x v n t
signed (signs.With o) x v n t = operated o (target_tree x v n) t

-- how a target that is a local variable is seen
abbrev pub target_variable : Target → Place → Variable
target_variable (targets.Variable x) s = variable_of x s
target_variable (targets.Field x) s = record { depth = 0; slot = 0 }
target_variable (targets.Global x) s = record { depth = 0; slot = 0 }
target_variable (targets.Constant x n) s = record { depth = 0; slot = 0 }

-- the tree of an assignment, at the place where the target is known
abbrev pub assigned_to : Aim → Place → Tree → Tree
assigned_to a s t = signed a.sign a.target (target_variable a.target s) a.behind t

abbrev pub comma : Look (Unit {0})
comma = word kind.Comma

-- the tree of an assignment to an element or an attribute
abbrev pub set_spot : Spot → Tree → Tree
set_spot (element r i) t = set_index r i t
set_spot (attribute r x) t = set_attribute r x.0 t

-- the same, or one with an operator to what is read so
abbrev pub settled : Sign → Spot → Tree → Tree → Tree
settled signs.Plain p x t = set_spot p t
settled (signs.With o) p x t = operated o x t

-- an assignment to an element or an attribute, or an operand
pub data Settled (N : Nested) (commands : Bool) : Place → Tree → Place → Type 0 where
  a_setting : {s m n z : Place} {r : Reached} {p : Spot} {q : Sign} {t : Tree} → Postfix N s r m → r.spot ≡ Some p → at sign m ≡ Some (q, n) → N.value commands n t z → Settled N commands s (settled q p r.tree t) z
  no_setting : {s z : Place} {t : Tree} → Ternary N s t z → Settled N commands s t z

-- An assignment, or a Q. The variable is known on the right side already.
pub data Assigned (N : Nested) (commands : Bool) (Q : Place → Tree → Place → Type 0) : Place → Tree → Place → Type 0 where
  an_assignment : {s n z : Place} {x : Aim} {t : Tree} → at target s ≡ Some (x, n) → is_settable x.target n.known ≡ true → N.value commands (with_target x.target n) t z → Assigned N commands Q s (assigned_to x (with_target x.target n) t) z
  no_assignment : {s z : Place} {t : Tree} → Q s t z → Assigned N commands Q s t z

abbrev pub Argument : Nested → Place → Tree → Place → Type 0
Argument N = Assigned N false (Settled N false)

abbrev pub label_of_kind : WordKind → Option Sym
label_of_kind (kind.Label x) = Some x
label_of_kind _ = None

abbrev pub label : Look Sym
label = first_as (λ w. label_of_kind w.kind)

-- a key and its value
pub data Pair (N : Nested) : Place → Tree → Place → Type 0 where
  by_label : {s m z : Place} {x : Sym} {t : Tree} → at label s ≡ Some (x, m) → Argument N m t z → Pair N s (pair (symbol x.0) t) z
  by_arrow : {s m n z : Place} {k t : Tree} → Argument N s k m → next m ≡ Some (kind.Arrow, n) → Argument N n t z → Pair N s (pair k t) z

-- the `*` of an operator, which may stand before an argument too
abbrev pub star : WordKind
star = kind.Operator (infixes.Binary op.Multiply)

-- an argument, or a `*` and one whose items are arguments
pub data Item (N : Nested) : Place → Tree → Place → Type 0 where
  a_splat : {s m z : Place} {t : Tree} → next s ≡ Some (star, m) → Argument N m t z → Item N s (splat t) z
  a_plain_item : {s z : Place} {t : Tree} → Argument N s t z → Item N s t z

-- a member of a list: an argument, or a pair
pub data Member : Type 0 where
  item : Tree → Member
  entry : Tree → Member

-- the items of a list, and the pairs behind them
pub record Given : Type 0 where
  pub items : List Tree
  pub pairs : List Tree

abbrev pub nothing : Given
nothing = record { items = []; pairs = [] }

-- one member more
abbrev pub with_member : Given → Member → Given
with_member g (item t) = record { items = g.items ++ t ∷ []; pairs = g.pairs }
with_member g (entry t) = record { items = g.items; pairs = g.pairs ++ t ∷ [] }

abbrev pub is_filled : List Tree → Bool
is_filled [] = false
is_filled (t ∷ ts) = true

-- only pairs stand in a hash, and behind a pair
abbrev pub only_pairs : Listed → Given → Bool
only_pairs listings.Command g = is_filled g.pairs
only_pairs listings.Call g = is_filled g.pairs
only_pairs listings.Array g = is_filled g.pairs
only_pairs listings.Hash g = true

-- a pair; and an item too, unless only pairs may stand there
pub data Listing (N : Nested) (only : Bool) : Place → Member → Place → Type 0 where
  an_item : {s z : Place} {t : Tree} → only ≡ false → Item N s t z → Listing N only s (item t) z
  a_pair_member : {s z : Place} {t : Tree} → Pair N s t z → Listing N only s (entry t) z

-- one member behind those that came
pub data Adding (N : Nested) (k : Listed) (g : Given) : Place → Given → Place → Type 0 where
  adding : {s z : Place} {m : Member} → Listing N (only_pairs k g) s m z → Adding N k g s (with_member g m) z

abbrev pub AddingTo : Nested → Listed → Unit {0} → Given → Place → Given → Place → Type 0
AddingTo N k u g = Adding N k g

-- one member or more, with commas between them
abbrev pub Members : Nested → Listed → Place → Given → Place → Type 0
Members N k = Trail comma (Adding N k nothing) (AddingTo N k)

-- behind items pairs are one hash, the last argument
abbrev pub with_pairs : List Tree → List Tree → List Tree
with_pairs items [] = items
with_pairs items (t ∷ ts) = items ++ pairs (listed (t ∷ ts)) ∷ []

-- what a list has
abbrev pub contents : Listed → Given → List Tree
contents listings.Command g = with_pairs g.items g.pairs
contents listings.Call g = with_pairs g.items g.pairs
contents listings.Array g = with_pairs g.items g.pairs
contents listings.Hash g = g.pairs

-- the word that ends a list
abbrev pub closing : Listed → Look (Unit {0})
closing listings.Command ws = None
closing listings.Call ws = word kind.Close ws
closing listings.Array ws = word kind.CloseSquare ws
closing listings.Hash ws = word kind.CloseBrace ws

abbrev pub behind_comma : List Word → Option (Unit {0} × List Word) → List Word
behind_comma ws None = ws
behind_comma ws (Some r) = r.1

-- the same, where a comma may stand before it
abbrev pub last : Listed → Look (Unit {0})
last k ws = closing k (behind_comma ws (comma ws))

-- members and the word that ends them
pub data Bracketed (N : Nested) (k : Listed) : Place → List Tree → Place → Type 0 where
  no_members : {s z : Place} {u : Unit {0}} → at (closing k) s ≡ Some (u, z) → Bracketed N k s [] z
  some_members : {s m z : Place} {u : Unit {0}} {g : Given} → Members N k s g m → at (last k) m ≡ Some (u, z) → Bracketed N k s (contents k g) z

pub data Array (N : Nested) : Place → Tree → Place → Type 0 where
  an_array : {s z : Place} {l : List Tree} → Bracketed N listings.Array s l z → Array N s (array (listed l)) z

pub data Hash (N : Nested) : Place → Tree → Place → Type 0 where
  a_hash : {s z : Place} {l : List Tree} → Bracketed N listings.Hash s l z → Hash N s (hash (listed l)) z

pub data Index (N : Nested) : Place → Tree → Place → Type 0 where
  of_element : {s m z : Place} {t : Tree} → Argument N s t m → next m ≡ Some (kind.CloseSquare, z) → Index N s t z

-- what stands behind the name of a command: arguments, or a command
pub data Commanded (N : Nested) : Place → List Tree → Place → Type 0 where
  by_arguments : {s z : Place} {g : Given} → Members N listings.Command s g z → Commanded N s (contents listings.Command g) z
  by_command : {s m z : Place} {x : Head} {t : Tree} → at (command s.known) s ≡ Some (x, m) → N.part parts.Command s t z → Commanded N s (t ∷ []) z
  -- a command with a receiver
  by_order : {s m n z : Place} {r : Reached} {x : Sym} {t : Tree} → Postfix N s r m → at order m ≡ Some (x, n) → N.ordered r.tree x n t z → Commanded N s (t ∷ []) z

-- the same, where the command gets a `do` block and no call in it does
abbrev pub Arguments : Nested → Head → Place → List Tree → Place → Type 0
Arguments N x m = Taking (within_head x m.known.takes_do) (Commanded N) m

pub data Command (N : Nested) : Place → Tree → Place → Type 0 where
  a_command : {s m n z : Place} {x : Head} {l : List Tree} {t : Tree} → at (command s.known) s ≡ Some (x, m) → Arguments N x m l n → Blocked N (behinds.Command x) (headed x l) n t z → Command N s t z

-- a command from behind its receiver and its name
pub data Ordered (N : Nested) (r : Tree) (x : Sym) : Place → Tree → Place → Type 0 where
  an_order : {s m z : Place} {l : List Tree} {t : Tree} → Arguments N (heads.Call x) s l m → Blocked N (behinds.Command (heads.Call x)) (send r x.0 (listed l)) m t z → Ordered N r x s t z

pub data Phrase (N : Nested) : Place → Tree → Place → Type 0 where
  by_name : {s z : Place} {t : Tree} → Command N s t z → Phrase N s t z
  -- a command with a receiver
  by_receiver : {s m n z : Place} {r : Reached} {x : Sym} {t : Tree} → Postfix N s r m → at order m ≡ Some (x, n) → Ordered N r.tree x n t z → Phrase N s t z
  an_operand : {s z : Place} {t : Tree} → Settled N true s t z → Phrase N s t z

-- an operand; and a command too, where commands may stand
abbrev pub Operand : Nested → Bool → Place → Tree → Place → Type 0
Operand N false = Settled N false
Operand N true = Phrase N

-- a right side, an argument, or what is joined to an expression
abbrev pub Value : Nested → Bool → Place → Tree → Place → Type 0
Value N commands = Assigned N commands (Operand N commands)
