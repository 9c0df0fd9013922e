-- What a name stands for, and what its neighbours say about it.
use Rattle.std.specs.Prelude.{ℕ, ◌==◌, ◌+◌, ◌-◌, min, length, List, [], ◌∷◌, ◌++◌, Bool, true, false, not, ◌&&◌, ◌||◌, Option, Some, None, is_some, if◌then◌else◌}
use Rattle.rr_base.specs.declared.name.Sym.{Sym}
use Rattle.rr_tree.specs.Tree.{Tree, Trees, nil, local, call, array, yield, super, forwarding_super, break, next, return, splat, listed}
use Rattle.rr_parser.specs.declared.locals.Local.{Local}
use Rattle.rr_parser.specs.declared.variables.Variable.{Variable}
use Rattle.rr_parser.specs.declared.word.Head.{Head}
use Rattle.rr_parser.specs.declared.word.Head.TheVariants as heads
use Rattle.rr_tree.specs.declared.node.BinaryOperator.TheVariants as op
use Rattle.rr_parser.specs.declared.word.Infix.TheVariants as infixes
use Rattle.rr_parser.specs.declared.word.Jump.{Jump}
use Rattle.rr_parser.specs.declared.word.Jump.TheVariants as jumps
use Rattle.rr_parser.specs.declared.word.NameKind.TheVariants as name_kinds
use Rattle.rr_parser.specs.declared.word.Passing.{Passing}
use Rattle.rr_parser.specs.declared.word.Passing.TheVariants as passings
use Rattle.rr_parser.specs.declared.word.WordKind.{WordKind}
use Rattle.rr_parser.specs.declared.word.WordKind.TheVariants as kind
use Rattle.rr_parser.specs.declared.word.Word.{Word}
use Rattle.rr_parser.specs.Places.{Known, Place, Look, first_as, where_true, is_kind, tight_as}

abbrev pub local_if : ℕ → Local → Option Local
local_if x l = if l.name.0 == x then Some l else None

abbrev pub later_or : Option Local → Option Local → Option Local
later_or (Some l) o = Some l
later_or None o = o

-- the last of the variables with this name, which hides those before it
abbrev pub find : ℕ → List Local → Option Local
find x [] = None
find x (l ∷ ls) = later_or (find x ls) (local_if x l)

abbrev pub is_local : Sym → Place → Bool
is_local x s = is_some (find x.0 s.known.locals)

-- how many scopes outside a variable is, and its number there
abbrev pub seen_from : Known → Option Local → Variable
seen_from k None = record { depth = 0; slot = 0 }
seen_from k (Some l) = record { depth = k.level - l.level; slot = l.slot }

abbrev pub variable_of : Sym → Place → Variable
variable_of x s = seen_from s.known (find x.0 s.known.locals)

-- how many words stand behind a use of a variable, which a tree tells in 32 bits; a greater number is told as the greatest
abbrev pub told_behind : List Word → ℕ
told_behind ws = min (length ws) 4294967295

-- a use of a variable that is seen so, behind which so many words stand
abbrev pub local_tree : Sym → Variable → ℕ → Tree
local_tree x v n = local v.depth v.slot x.0 n

-- a name that is no variable yet becomes one of the place's own scope and gets the next number there
abbrev pub with_variable : Known → Sym → Option Local → Known
with_variable k x (Some l) = k
with_variable k x None = record { locals = k.locals ++ record { name = x; level = k.level; slot = k.count } ∷ []; level = k.level; count = k.count + 1; begun = k.begun; in_loop = k.in_loop; in_method = k.in_method; takes_do = k.takes_do }

-- the same place, where the name is a local variable
abbrev pub with_local : Sym → Place → Place
with_local x s = record { known = with_variable s.known x (find x.0 s.known.locals); rest = s.rest }

-- the same, in a loop or not
abbrev pub with_loop : Bool → Known → Known
with_loop b k = record { locals = k.locals; level = k.level; count = k.count; begun = k.begun; in_loop = b; in_method = k.in_method; takes_do = k.takes_do }

abbrev pub name_of_kind : WordKind → Option Sym
name_of_kind (kind.Name x k) = Some x
name_of_kind _ = None

-- a name
abbrev pub name : Look Sym
name = first_as (λ w. name_of_kind w.kind)

-- a name that may be a variable: no mark ends it
abbrev pub variable_of_kind : WordKind → Option Sym
variable_of_kind (kind.Name x name_kinds.Marked) = None
variable_of_kind (kind.Name x k) = Some x
variable_of_kind _ = None

abbrev pub variable : Look Sym
variable = first_as (λ w. variable_of_kind w.kind)

-- the bracket that stands directly behind a name
abbrev pub bracket : Look (Unit {0})
bracket = tight_as (λ k. where_true (is_kind k kind.Open))

-- what follows has no blank before it
abbrev pub is_tight : List Word → Bool
is_tight [] = false
is_tight (w ∷ ws) = not w.blank

-- a word that begins an operand; the minus and the `*` do so only where no blank follows them
abbrev pub begins_operand : WordKind → Bool → Bool
begins_operand (kind.Int n) tight = true
begins_operand (kind.Text i) tight = true
begins_operand (kind.TextHead i) tight = true
begins_operand (kind.Name x k) tight = true
begins_operand kind.Nil tight = true
begins_operand (kind.Truth b) tight = true
begins_operand (kind.Symbol x) tight = true
begins_operand (kind.Label x) tight = true
begins_operand (kind.Constant x outer) tight = true
begins_operand (kind.Field x) tight = true
begins_operand (kind.Global x) tight = true
begins_operand kind.Itself tight = true
begins_operand (kind.Passing p) tight = true
begins_operand kind.Begin tight = true
begins_operand kind.Open tight = true
begins_operand kind.OpenSquare tight = true
begins_operand kind.Bang tight = true
begins_operand kind.Minus tight = tight
begins_operand (kind.Operator (infixes.Binary op.Multiply)) tight = tight
begins_operand _ tight = false

-- behind a blank stands a word that begins an operand
abbrev pub begins_operands : List Word → Bool
begins_operands [] = false
begins_operands (w ∷ ws) = w.blank && begins_operand w.kind (is_tight ws)

-- the name begins a command: it is no local variable, and operands follow
abbrev pub begins_command : Sym → Place → Bool
begins_command x s = not (is_local x s) && begins_operands s.rest

-- ---- jumps

-- `break` and `next` stand in a loop or a block
abbrev pub is_allowed : Jump → Known → Bool
is_allowed jumps.Break k = k.in_loop
is_allowed jumps.Next k = k.in_loop
is_allowed jumps.Return k = true

abbrev pub jump_tree : Jump → Tree → Tree
jump_tree jumps.Break t = break t
jump_tree jumps.Next t = next t
jump_tree jumps.Return t = return t

-- an argument whose items are arguments
abbrev pub is_splat : Tree → Bool
is_splat (splat t) = true
is_splat _ = false

-- what stands for these values as one: several are an array, and so are the items of one
abbrev pub one_value : List Tree → Tree
one_value [] = nil
one_value (t ∷ []) = if is_splat t then array (listed (t ∷ [])) else t
one_value (t ∷ u ∷ ts) = array (listed (t ∷ u ∷ ts))

-- a word that begins the value of a jump, whether a blank stands before it or not
abbrev pub begins_argument : WordKind → Bool
begins_argument k = begins_operand k true || is_kind k kind.OpenBrace

abbrev pub begins_arguments : List Word → Bool
begins_arguments [] = false
begins_arguments (w ∷ ws) = begins_argument w.kind

-- ---- what passes arguments on

abbrev pub passed : Passing → Trees → Tree
passed passings.Yield l = yield l
passed passings.Super l = super l

-- without arguments and without a bracket: `super` passes the present values of the parameters
abbrev pub passed_bare : Passing → Tree
passed_bare passings.Yield = yield (listed [])
passed_bare passings.Super = forwarding_super

-- ---- what begins a command

abbrev pub head_of_kind : WordKind → Option Head
head_of_kind (kind.Name x k) = Some (heads.Call x)
head_of_kind (kind.Jump j) = Some (heads.Jump j)
head_of_kind (kind.Passing p) = Some (heads.Passing p)
head_of_kind _ = None

abbrev pub head : Look Head
head = first_as (λ w. head_of_kind w.kind)

abbrev pub begins_head : Head → Place → Bool
begins_head (heads.Call x) s = begins_command x s
begins_head (heads.Jump j) s = is_allowed j s.known && begins_arguments s.rest
begins_head (heads.Passing p) s = s.known.in_method && begins_operands s.rest

abbrev pub headed : Head → List Tree → Tree
headed (heads.Call x) l = call x.0 (listed l)
headed (heads.Jump j) l = jump_tree j (one_value l)
headed (heads.Passing p) l = passed p (listed l)

abbrev pub commanding : Known → Option (Head × List Word) → Option (Head × List Word)
commanding known None = None
commanding known (Some x) = if begins_head x.0 (record { known = known; rest = x.1 }) then Some (x.0, x.1) else None

-- what begins a command
abbrev pub command : Known → Look Head
command known ws = commanding known (head ws)
