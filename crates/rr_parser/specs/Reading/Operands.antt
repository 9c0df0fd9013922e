-- Reading operands.
use Rattle.std.specs.Prelude.{ℕ, pos, [], List, Option, Some, None, Ok, Err, if◌then◌else◌}
use Rattle.rr_base.specs.declared.name.Sym.{Sym}
use Rattle.rr_tree.specs.Tree.{Tree, nil, int, bare, call, send, with_block, constant, negate, logical_not, listed}
use Rattle.rr_parser.specs.declared.word.WordKind.{WordKind}
use Rattle.rr_parser.specs.declared.word.WordKind.TheVariants as kind
use Rattle.rr_parser.specs.declared.word.Word.{Word}
use Rattle.rr_parser.specs.declared.word.Behind.{Behind}
use Rattle.rr_parser.specs.declared.word.Behind.TheVariants as behinds
use Rattle.rr_parser.specs.declared.word.Fence.{Fence}
use Rattle.rr_parser.specs.declared.word.Tail.{Tail}
use Rattle.rr_parser.specs.declared.word.Tail.TheVariants as tails
use Rattle.rr_parser.specs.declared.word.Naming.{Naming}
use Rattle.rr_parser.specs.declared.word.Jump.{Jump}
use Rattle.rr_parser.specs.declared.word.Passing.{Passing}
use Rattle.rr_parser.specs.declared.word.Part.{Part}
use Rattle.rr_parser.specs.declared.word.Part.TheVariants as parts
use Rattle.rr_tree.specs.declared.node.Path.TheVariants as paths
use Rattle.rr_parser.specs.Places.{Place, Look, word, at, next}
use Rattle.rr_parser.specs.Grammar.Names.{is_local, variable_of, told_behind, local_tree, is_allowed, jump_tree, begins_arguments, passed, passed_bare, bracket, begins_operands}
use Rattle.rr_parser.specs.Grammar.Fences.{opened}
use Rattle.rr_parser.specs.Grammar.Operands.{fits, fits_below, negated, joined, literal_of, inner_constant, construct_of, tail, Reached, plain, at_element, at_attribute}
use Rattle.rr_parser.specs.Reading.Answers.{◌>>=◌, wrong, Answer, Parse, built, from, trail_on}
use Rattle.rr_parser.specs.Reading.Nesting.{Readers}

abbrev pub call_of : Sym → Answer (List Tree) → Answer Tree
call_of x r = built (λ l. call x.0 (listed l)) r

abbrev pub bare_call : Sym → Place → Answer Tree
bare_call x m = if begins_operands m.rest then Err wrong else Ok (bare x.0, m)

abbrev pub variable_or_call : Sym → Place → Answer Tree
variable_or_call x m = if is_local x m then Ok (local_tree x (variable_of x m) (told_behind m.rest), m) else bare_call x m

-- a call with its block
abbrev pub block_behind : Readers → Fence → Tree → Parse Tree
block_behind N f c s = built (with_block c) (N.part (parts.Block f) s)

abbrev pub blocked_or : Readers → Tree → Place → Option (Fence × Place) → Answer Tree
blocked_or N c s None = Ok (c, s)
blocked_or N c s (Some b) = block_behind N b.0 c b.1

unfoldable pub blocked_of : Readers → Behind → Tree → Parse Tree
blocked_of N q c s = blocked_or N c s (opened q s)

-- what stands behind a call or a command, with the call
abbrev pub then_blocked : Readers → Behind → Answer Tree → Answer Tree
then_blocked N q r = r >>= λ c. blocked_of N q c.0 c.1

abbrev pub unbracketed_or : Readers → Sym → Place → Option (Fence × Place) → Answer Tree
unbracketed_or N x m None = variable_or_call x m
unbracketed_or N x m (Some b) = block_behind N b.0 (call x.0 (listed [])) b.1

abbrev pub name_or : Readers → Sym → Place → Option (Unit {0} × Place) → Answer Tree
name_or N x m None = unbracketed_or N x m (opened behinds.Call m)
name_or N x m (Some b) = then_blocked N behinds.Call (call_of x (N.bracketed b.1))

unfoldable pub name_of : Readers → Sym → Parse Tree
name_of N x m = name_or N x m (at bracket m)

unfoldable pub int_at : ℕ → Place → Answer Tree
int_at n m = if fits n then Ok (int (pos n), m) else Err wrong

abbrev pub negative_in : Option (ℕ × Place) → Answer Tree
negative_in None = Err wrong
negative_in (Some n) = if fits_below n.0 then Ok (int (negated n.0), n.1) else Err wrong

unfoldable pub negative_of : Parse Tree
negative_of m = negative_in (at joined m)

abbrev pub constant_or : Sym → Place → Option (Sym × Place) → Answer Tree
constant_or x m None = Ok (constant (paths.Plain x), m)
constant_or x m (Some y) = Ok (constant (paths.Ractor y.0), y.1)

unfoldable pub constant_at : Sym → Naming → Parse Tree
constant_at x outer m = constant_or x m (at (inner_constant outer) m)

abbrev pub jump_at : Jump → Place → Answer Tree
jump_at j m = if is_allowed j m.known then (if begins_arguments m.rest then Err wrong else Ok (jump_tree j nil, m)) else Err wrong

abbrev pub passing_bare : Passing → Place → Answer Tree
passing_bare p m = if begins_operands m.rest then Err wrong else Ok (passed_bare p, m)

abbrev pub passing_or : Readers → Passing → Place → Option (Unit {0} × Place) → Answer Tree
passing_or N p m None = passing_bare p m
passing_or N p m (Some b) = built (λ l. passed p (listed l)) (N.bracketed b.1)

unfoldable pub passing_of : Readers → Passing → Parse Tree
passing_of N p m = if m.known.in_method then passing_or N p m (at bracket m) else Err wrong

abbrev pub begun : Readers → Option Tree → Option Part → Place → Answer Tree
begun N (Some t) p m = Ok (t, m)
begun N None (Some p) m = N.part p m
begun N None None m = Err wrong

abbrev pub primary_at : Readers → WordKind → Place → Answer Tree
primary_at N (kind.Int n) m = int_at n m
primary_at N (kind.Name x k) m = name_of N x m
primary_at N (kind.Constant x outer) m = constant_at x outer m
primary_at N kind.Minus m = negative_of m
primary_at N (kind.Jump j) m = jump_at j m
primary_at N (kind.Passing p) m = passing_of N p m
primary_at N k m = begun N (literal_of k) (construct_of k) m

abbrev pub primary_in : Readers → Option (WordKind × Place) → Answer Tree
primary_in N None = Err wrong
primary_in N (Some k) = primary_at N k.0 k.1

unfoldable pub primary_of : Readers → Parse Tree
primary_of N s = primary_in N (next s)

abbrev pub sent_or : Readers → Tree → Sym → Place → Option (Fence × Place) → Answer Reached
sent_or N r x s None = Ok (at_attribute r x, s)
sent_or N r x s (Some b) = built plain (block_behind N b.0 (send r x.0 (listed [])) b.1)

-- a call without arguments
unfoldable pub sent_of : Readers → Tree → Sym → Parse Reached
sent_of N r x s = sent_or N r x s (opened behinds.Call s)

-- a call with arguments in brackets
unfoldable pub sent_call_of : Readers → Tree → Sym → Parse Tree
sent_call_of N r x s = then_blocked N behinds.Call (built (λ l. send r x.0 (listed l)) (N.bracketed s))

unfoldable pub element_of : Readers → Tree → Parse Reached
element_of N r s = built (at_element r) (N.part parts.Index s)

abbrev pub plainly : Parse Tree → Parse Reached
plainly p s = built plain (p s)

abbrev pub tailed_of : Readers → Tail → Reached → Parse Reached
tailed_of N (tails.Send x) r = sent_of N r.tree x
tailed_of N (tails.Call x) r = plainly (sent_call_of N r.tree x)
tailed_of N tails.Index r = element_of N r.tree

unfoldable pub postfix_of : Readers → Parse Reached
postfix_of N = from (plainly (primary_of N)) (trail_on tail (tailed_of N))

abbrev pub tree_reached : Reached → Tree
tree_reached r = r.tree

abbrev pub bang_or : Readers → Place → Option (Unit {0} × Place) → Answer Tree
bang_or N s None = built tree_reached (postfix_of N s)
bang_or N s (Some m) = built logical_not (N.part parts.Bang m.1)

unfoldable pub bang_of : Readers → Parse Tree
bang_of N s = bang_or N s (at (word kind.Bang) s)

abbrev pub without_integer : Option (ℕ × List Word) → List Word → Option (Unit {0} × List Word)
without_integer None ws = Some (tt, ws)
without_integer (Some n) ws = None

abbrev pub no_integer : Option (Unit {0} × List Word) → Option (Unit {0} × List Word)
no_integer None = None
no_integer (Some x) = without_integer (joined x.1) x.1

-- a minus that belongs to no integer
abbrev pub prefix_minus : Look (Unit {0})
prefix_minus ws = no_integer (word kind.Minus ws)

abbrev pub minus_or : Readers → Place → Option (Unit {0} × Place) → Answer Tree
minus_or N s None = bang_of N s
minus_or N s (Some m) = built negate (N.part parts.Minus m.1)

unfoldable pub minus_of : Readers → Parse Tree
minus_of N s = minus_or N s (at prefix_minus s)
