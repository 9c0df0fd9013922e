-- Reading assignments, arguments and commands.
use Rattle.std.specs.Prelude.{List, Bool, true, false, ◌||◌, Option, Some, None, is_some, Ok, Err, [], if◌then◌else◌}
use Rattle.rr_base.specs.declared.name.Sym.{Sym}
use Rattle.rr_tree.specs.Tree.{Tree, array, hash, send, symbol, splat, pair, listed}
use Rattle.rr_parser.specs.declared.word.Part.TheVariants as parts
use Rattle.rr_parser.specs.declared.word.WordKind.TheVariants as kind
use Rattle.rr_parser.specs.declared.word.Aim.{Aim}
use Rattle.rr_parser.specs.declared.word.Behind.TheVariants as behinds
use Rattle.rr_parser.specs.declared.word.Head.{Head}
use Rattle.rr_parser.specs.declared.word.Head.TheVariants as heads
use Rattle.rr_parser.specs.declared.word.Listed.{Listed}
use Rattle.rr_parser.specs.declared.word.Listed.TheVariants as listings
use Rattle.rr_parser.specs.declared.word.Word.{Word}
use Rattle.rr_parser.specs.Places.{Place, Look, unless, word, at}
use Rattle.rr_parser.specs.Grammar.Chains.{one_of}
use Rattle.rr_parser.specs.Grammar.Names.{headed, command}
use Rattle.rr_parser.specs.Grammar.Fences.{within_head}
use Rattle.rr_parser.specs.declared.word.Sign.{Sign}
use Rattle.rr_parser.specs.Grammar.Operands.{order, Spot, Reached}
use Rattle.rr_parser.specs.Grammar.Calls.{sign, settled, is_settable, target, with_target, assigned_to, label, comma, star, closing, last, Member, item, entry, Given, nothing, with_member, only_pairs, contents}
use Rattle.rr_parser.specs.Reading.Answers.{◌>>=◌, wrong, Answer, Parse, built, ended_by, closed, from, taking_of, trail_on}
use Rattle.rr_parser.specs.Reading.Nesting.{Readers}
use Rattle.rr_parser.specs.Reading.Operands.{then_blocked, postfix_of, prefix_minus}
use Rattle.rr_parser.specs.Reading.Operators.{ternary_on, ternary_of}

abbrev pub setting_or : Readers → Bool → Tree → Spot → Place → Option (Sign × Place) → Answer Tree
setting_or N commands t p m None = ternary_on N t m
setting_or N commands t p m (Some q) = built (settled q.0 p t) (N.value commands q.1)

-- what stands behind what can be assigned to
unfoldable pub setting_of : Readers → Bool → Tree → Spot → Parse Tree
setting_of N commands t p m = setting_or N commands t p m (at sign m)

abbrev pub spot_or : Readers → Bool → Tree → Option Spot → Parse Tree
spot_or N commands t None = ternary_on N t
spot_or N commands t (Some p) = setting_of N commands t p

-- what stands behind an operand that no word stands before
abbrev pub reached_on : Readers → Bool → Reached → Parse Tree
reached_on N commands r = spot_or N commands r.tree r.spot

abbrev pub behind_bang : Readers → (Reached → Parse Tree) → Place → Option (Unit {0} × Place) → Answer Tree
behind_bang N on s None = from (postfix_of N) on s
behind_bang N on s (Some m) = ternary_of N s

abbrev pub behind_minus : Readers → (Reached → Parse Tree) → Place → Option (Unit {0} × Place) → Answer Tree
behind_minus N on s None = behind_bang N on s (at (word kind.Bang) s)
behind_minus N on s (Some m) = ternary_of N s

-- what goes on from an operand where no word stands before it
unfoldable pub settled_by : Readers → (Reached → Parse Tree) → Parse Tree
settled_by N on s = behind_minus N on s (at prefix_minus s)

abbrev pub settled_of : Readers → Parse Tree
settled_of N = settled_by N (reached_on N false)

abbrev pub assigned_or : Readers → Bool → Parse Tree → Place → Option (Aim × Place) → Answer Tree
assigned_or N commands q s None = q s
assigned_or N commands q s (Some x) = if is_settable x.0.target x.1.known then built (assigned_to x.0 (with_target x.0.target x.1)) (N.value commands (with_target x.0.target x.1)) else Err wrong

unfoldable pub assigned_of : Readers → Bool → Parse Tree → Parse Tree
assigned_of N commands q s = assigned_or N commands q s (at target s)

abbrev pub argument_of : Readers → Parse Tree
argument_of N = assigned_of N false (settled_of N)

abbrev pub lone : Bool → Tree → Place → Answer Member
lone true t m = Err wrong
lone false t m = Ok (item t, m)

abbrev pub arrow_or : Readers → Bool → Tree → Place → Option (Unit {0} × Place) → Answer Member
arrow_or N only t m None = lone only t m
arrow_or N only t m (Some n) = built (λ v. entry (pair t v)) (argument_of N n.1)

-- what stands behind an argument, which may be the key of a pair
unfoldable pub key_on : Readers → Bool → Tree → Parse Member
key_on N only t m = arrow_or N only t m (at (word kind.Arrow) m)

abbrev pub star_or : Readers → Bool → Place → Option (Unit {0} × Place) → Answer Member
star_or N only s None = from (argument_of N) (key_on N only) s
star_or N only s (Some m) = built (λ t. item (splat t)) (argument_of N m.1)

-- a `*`, where items may stand
abbrev pub star_unless : Bool → Look (Unit {0})
star_unless only ws = unless only (word star ws)

unfoldable pub unlabeled_of : Readers → Bool → Parse Member
unlabeled_of N only s = star_or N only s (at (star_unless only) s)

abbrev pub label_or : Readers → Bool → Place → Option (Sym × Place) → Answer Member
label_or N only s None = unlabeled_of N only s
label_or N only s (Some x) = built (λ t. entry (pair (symbol x.0.0) t)) (argument_of N x.1)

unfoldable pub member_of : Readers → Bool → Parse Member
member_of N only s = label_or N only s (at label s)

-- one member behind those that came
unfoldable pub adding_of : Readers → Listed → Given → Parse Given
adding_of N k g s = built (with_member g) (member_of N (only_pairs k g) s)

abbrev pub adding_to : Readers → Listed → Unit {0} → Given → Parse Given
adding_to N k u g = adding_of N k g

abbrev pub unless_closing : Listed → Option (Unit {0} × List Word) → Option (Unit {0} × List Word)
unless_closing k None = None
unless_closing k (Some r) = unless (is_some (closing k r.1)) (Some r)

-- a comma, unless the list ends behind it
abbrev pub another : Listed → Look (Unit {0})
another k ws = unless_closing k (comma ws)

-- the members behind those that came
abbrev pub members_on : Readers → Listed → Given → Parse Given
members_on N k = trail_on (another k) (adding_to N k)

unfoldable pub members_of : Readers → Listed → Parse Given
members_of N k = from (adding_of N k nothing) (members_on N k)

-- members of a list, and what the list has by them
unfoldable pub listed_of : Readers → Listed → Parse (List Tree)
listed_of N k s = built (contents k) (members_of N k s)

abbrev pub bracketed_or : Readers → Listed → Place → Option (Unit {0} × Place) → Answer (List Tree)
bracketed_or N k s None = listed_of N k s >>= λ l. ended_by l.0 (at (last k) l.1)
bracketed_or N k s (Some x) = Ok ([], x.1)

unfoldable pub bracketed_of : Readers → Listed → Parse (List Tree)
bracketed_of N k s = bracketed_or N k s (at (closing k) s)

unfoldable pub array_of : Readers → Parse Tree
array_of N s = built (λ l. array (listed l)) (bracketed_of N listings.Array s)

unfoldable pub hash_of : Readers → Parse Tree
hash_of N s = built (λ l. hash (listed l)) (bracketed_of N listings.Hash s)

unfoldable pub index_of : Readers → Parse Tree
index_of N s = closed kind.CloseSquare (argument_of N s)

-- a target and a sign come, or a word that stands before an operand
abbrev pub is_prefixed : List Word → Bool
is_prefixed ws = is_some (target ws) || is_some (prefix_minus ws) || is_some (word kind.Bang ws)

-- the same, or a label or a `*`
abbrev pub is_introduced : List Word → Bool
is_introduced ws = is_some (label ws) || is_some (word star ws) || is_prefixed ws

-- the first argument of a command, from behind the operand that it begins with
unfoldable pub first_on : Readers → Reached → Parse Given
first_on N r m = built (with_member nothing) (from (reached_on N false r) (key_on N false) m)

-- the arguments of a command, from behind the operand that they begin with
unfoldable pub listed_on : Readers → Reached → Parse (List Tree)
listed_on N r m = built (contents listings.Command) (from (first_on N r) (members_on N listings.Command) m)

abbrev pub receiver_or : Readers → Reached → Place → Option (Sym × Place) → Answer (List Tree)
receiver_or N r m None = listed_on N r m
receiver_or N r m (Some x) = built one_of (N.ordered r.tree x.0 x.1)

-- what stands behind the operand: it may be the receiver of a command
unfoldable pub commanded_on : Readers → Reached → Parse (List Tree)
commanded_on N r m = receiver_or N r m (at order m)

-- where no command begins with its name: a word may come with which no operand begins
abbrev pub commanded_at : Readers → Bool → Parse (List Tree)
commanded_at N true = listed_of N listings.Command
commanded_at N false = from (postfix_of N) (commanded_on N)

abbrev pub commanded_or : Readers → Place → Option (Head × Place) → Answer (List Tree)
commanded_or N s None = commanded_at N (is_introduced s.rest) s
commanded_or N s (Some x) = built one_of (N.part parts.Command s)

unfoldable pub commanded_of : Readers → Parse (List Tree)
commanded_of N s = commanded_or N s (at (command s.known) s)

abbrev pub arguments_of : Readers → Head → Parse (List Tree)
arguments_of N x m = taking_of (within_head x m.known.takes_do) (commanded_of N) m

-- what stands behind the beginning of a command
unfoldable pub headed_of : Readers → Head → Parse Tree
headed_of N x m = then_blocked N (behinds.Command x) (built (headed x) (arguments_of N x m))

abbrev pub command_or : Readers → Option (Head × Place) → Answer Tree
command_or N None = Err wrong
command_or N (Some x) = headed_of N x.0 x.1

unfoldable pub command_of : Readers → Parse Tree
command_of N s = command_or N (at (command s.known) s)

-- what stands behind the receiver of a command and its name
unfoldable pub ordered_of : Readers → Tree → Sym → Parse Tree
ordered_of N r x m = then_blocked N (behinds.Command (heads.Call x)) (built (λ l. send r x.0 (listed l)) (arguments_of N (heads.Call x) m))

abbrev pub order_or : Readers → Reached → Place → Option (Sym × Place) → Answer Tree
order_or N r m None = reached_on N true r m
order_or N r m (Some x) = ordered_of N r.tree x.0 x.1

-- what stands behind an operand where commands may stand
unfoldable pub order_on : Readers → Reached → Parse Tree
order_on N r m = order_or N r m (at order m)

abbrev pub phrase_or : Readers → Place → Option (Head × Place) → Answer Tree
phrase_or N s None = settled_by N (order_on N) s
phrase_or N s (Some x) = headed_of N x.0 x.1

unfoldable pub phrase_of : Readers → Parse Tree
phrase_of N s = phrase_or N s (at (command s.known) s)

abbrev pub operand_of : Readers → Bool → Parse Tree
operand_of N false = settled_of N
operand_of N true = phrase_of N

-- what stands behind an operand, where commands may stand or not
abbrev pub operand_on : Readers → Bool → Reached → Parse Tree
operand_on N false = reached_on N false
operand_on N true = order_on N

abbrev pub value_of : Readers → Bool → Parse Tree
value_of N commands = assigned_of N commands (operand_of N commands)
