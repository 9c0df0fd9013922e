-- Built-in methods that call their block again and again.
use Rattle.std.specs.Prelude.{◌+◌, ◌-◌, ◌*◌, ◌^◌, ◌+ℤ◌, ℕ, ℤ, nat_eq, nat_lt, drop, pos, int_lt, List, [], ◌∷◌, ◌++◌, slice_index_or, codes, Bool, true, false, if◌then◌else◌, Option, Some, None, Result, Ok, Err}
use Rattle.std.specs.Option.{option_map}
use Rattle.std.specs.Ordering.{int_eq}
use Rattle.std.specs.Str.{bytes_eq}
use Rattle.rr_base.specs.declared.name.Sym.{Sym}
use Rattle.rr_base.specs.declared.name.TheConstants.ClassId.{STOP_ITERATION}
use Rattle.rr_frames.specs.Frames.{list_of}
use Rattle.rr_frames.specs.declared.activation.Shape.{Shape}
use Rattle.rr_space.specs.Graph.{Value}
use Rattle.rr_space.specs.Kinds.{class_at, kind_at}
use Rattle.rr_space.specs.declared.kind.Kind.{Kind}
use Rattle.rr_space.specs.declared.kind.Kind.TheVariants.{Array, Hash, Shell}
use Rattle.rr_space.specs.Tables.{Table}
use Rattle.rr_space.specs.declared.refer.Ref.{Ref}
use Rattle.rr_space.specs.declared.refer.Ref.TheVariants.{Nil, Int}
use Rattle.rr_tree.specs.Tree.{Tree, nil, block}
use Rattle.rr_builtin.specs.Acts.{Outcome, Gives, Raises, Lacks}
use Rattle.rr_tree.specs.Ancestors.{descends}
use Rattle.rr_builtin.specs.Elements.{names_of_hash}
use Rattle.rr_builtin.specs.Iterations.{iteration_named, refusal}
use Rattle.rr_builtin.specs.Kinds.{is_hash}
use Rattle.rr_builtin.specs.Objects.{is_truthy, identical}
use Rattle.rr_builtin.specs.Rounds.{Read, Reads, ReadsNone, IsMoved, item_at, pair_at, is_own_hash, element_found, found}
use Rattle.rr_builtin.specs.declared.problem.Problem.TheVariants.{Moved, OutOfRange}
use Rattle.rr_eval.specs.declared.call.Task.TheVariants.{MakeArray}
use Rattle.rr_builtin.specs.declared.iterations.Iteration.{Iteration}
use Rattle.rr_builtin.specs.declared.iterations.Iteration.TheVariants as iterations
use Rattle.rr_eval.specs.declared.call.Callee.TheVariants as callees
use Rattle.rr_eval.specs.declared.call_stack.Entry.TheVariants.{OfBlock}
use Rattle.rr_eval.specs.declared.iterating.Ahead.{Ahead}
use Rattle.rr_eval.specs.declared.iterating.Ahead.TheVariants.{Another, Finished, Stopped}
use Rattle.rr_eval.specs.declared.iterating.Visits.{Visits}
use Rattle.rr_eval.specs.declared.iterating.Visits.TheVariants.{Times, Upto, Elements, Pairs, Nothing, Forever}
use Rattle.rr_eval.specs.declared.problem.Answer.{Answer}
use Rattle.rr_eval.specs.declared.problem.Exit.TheVariants.{Method}
use Rattle.rr_eval.specs.declared.problem.Answer.TheVariants.{Gave, Raised, Broke, Done, Returned, Ends}
use Rattle.rr_eval.specs.declared.problem.Problem.{Problem}
use Rattle.rr_eval.specs.declared.problem.Problem.TheVariants.{BuiltIn, MissingMethod, NoBlock, NotHere}
use Rattle.rr_eval.specs.Basics.{throw, settled}
use Rattle.rr_eval.specs.Blocks.{running, without_frame, opened, spread_with, given_values, to_given, shape_in}
use Rattle.rr_eval.specs.Context.{Context}
use Rattle.rr_eval.specs.Pairs.{paired}
use Rattle.rr_eval.specs.Responses.{own_of, receiver_of}
use Rattle.rr_eval.specs.Script.{Script, Ret, Evaluate, TurnPart, See, Do, Ask, Does, Iterated, Memory}
use Rattle.rr_eval.specs.Variables.{top}

-- the integers below one, and those up to one
abbrev pub below : ℤ → Ref → Ahead
below here (Int past) = if int_lt here past then Another (Some (Int here)) None (Times (here +ℤ pos 1)) else Finished
below here v = Finished

abbrev pub up_to : ℤ → Ref → Ahead
up_to here (Int last) =
    if int_lt here last then Another (Some (Int here)) None (Upto (here +ℤ pos 1)) else
    if int_eq here last then Another (Some (Int here)) None Nothing else Finished
up_to here v = Finished

-- an element is given alone, or with its place, which is an integer of 64 bits
abbrev pub index_of : Iteration → ℕ → Option Ref
index_of iterations.EachWithIndex place = Some (Int (pos place))
index_of i place = None

-- what is published and not known is not given yet
abbrev pub element_given : Iteration → ℕ → Option Ref → Ahead
element_given i place None = Stopped NotHere
element_given i place (Some v) = if nat_lt place (2 ^ 63) then Another (Some v) (index_of i place) (Elements i (place + 1)) else Stopped (BuiltIn OutOfRange)

abbrev pub element_ahead : Table → Iteration → ℕ → Read → Ahead
element_ahead t i place (Reads x) = element_given i place (own_of t x)
element_ahead t i place ReadsNone = Finished
element_ahead t i place IsMoved = Stopped (BuiltIn Moved)

-- a key of a hash and its value, which come before what stands behind the key; what is published and not known is not given yet
abbrev pub pair_given : ℕ → Ref → Option Ref → Ahead
pair_given place key None = Stopped NotHere
pair_given place key (Some v) = Another (Some key) (Some v) (Pairs (place + 1))

-- a key that the hash no longer has is passed over
abbrev pub pair_read : Table → ℕ → Ref → Read → Option Ahead
pair_read t place key (Reads x) = Some (pair_given place key (own_of t x))
pair_read t place key ReadsNone = None
pair_read t place key IsMoved = Some (Stopped (BuiltIn Moved))

-- whether what is read is a key
abbrev pub is_same_key : Table → Ref → Option Ref → Bool
is_same_key t key None = false
is_same_key t key (Some v) = identical t key v

abbrev pub is_key : Table → Ref → Read → Bool
is_key t key (Reads x) = is_same_key t key (own_of t x)
is_key t key _ = false

-- A published hash changes no more, so that its pairs are read by place: the first key stands behind the receiver. Where that pair has
-- another key, the hash was changed in a turn and published then, and is not visited further yet.
abbrev pub pair_published : Table → Ref → ℕ → Ref → Option Ahead
pair_published t v place key =
    if is_key t key (found (element_found t v (2 * (place - 1)))) then pair_read t place key (found (element_found t v (2 * (place - 1) + 1))) else
    Some (Stopped NotHere)

-- the turn over a key of what is no hash of the space
abbrev pub pair_elsewhere : Kind → Table → Ref → ℕ → Ref → Option Ahead
pair_elsewhere Shell t v place key = Some (Stopped (BuiltIn Moved))
pair_elsewhere Hash t v place key = pair_published t v place key
pair_elsewhere k t v place key = Some (Stopped NotHere)

-- the turn over a key, where there is one
abbrev pub pair_turn : Table → Ref → ℕ → Ref → Option Ahead
pair_turn t v place key = if is_own_hash t v then pair_read t place key (pair_at [] t v key) else pair_elsewhere (kind_at t v) t v place key

abbrev pub turn_or : Ahead → Option Ahead → Ahead
turn_or others None = others
turn_or others (Some a) = a

-- the first turn over keys, of which the first has the place
abbrev pub pairs_ahead : Table → Ref → ℕ → List Ref → Ahead
pairs_ahead t v place [] = Finished
pairs_ahead t v place (key ∷ keys) = turn_or (pairs_ahead t v (place + 1) keys) (pair_turn t v place key)

-- What is ahead of an iteration: another turn, what its block is given, and what is visited after it; or nothing more; or an exception. The
-- receiver stands first among the values that stand for it, and the bound of `upto` or the keys of a hash behind it. An array is read by
-- place, as it is then, and a hash by key, or by place where it is published.
abbrev pub ahead : Visits → List Ref → Table → Ahead
ahead (Times here) vs t = below here (slice_index_or vs 0 Nil)
ahead (Upto here) vs t = up_to here (slice_index_or vs 1 Nil)
ahead (Elements i place) vs t = element_ahead t i place (item_at t (slice_index_or vs 0 Nil) place)
ahead (Pairs place) vs t = pairs_ahead t (slice_index_or vs 0 Nil) place (drop place vs)
ahead Nothing vs t = Finished
ahead Forever vs t = Another None None Forever

-- an element that `select` chooses, as it is behind the turn
abbrev pub chosen_own : Option Ref → Result (Option Ref) Problem
chosen_own None = Err NotHere
chosen_own (Some v) = Ok (Some v)

abbrev pub chosen : Table → Read → Result (Option Ref) Problem
chosen t (Reads x) = chosen_own (own_of t x)
chosen t ReadsNone = Ok (Some Nil)
chosen t IsMoved = Err (BuiltIn Moved)

-- What is kept of a turn that had a value: `map` keeps the value, and `select` the element where the value is true. The next place is known.
abbrev pub kept : Visits → Ref → List Ref → Table → Result (Option Ref) Problem
kept (Elements iterations.Map next) v stand t = Ok (Some v)
kept (Elements iterations.Select next) v stand t = if is_truthy v then chosen t (item_at t (slice_index_or stand 0 Nil) (next - 1)) else Ok None
kept visits v stand t = Ok None

-- An iteration that has no more turns gives its receiver; `map` and `select` give a new array of what they kept.
abbrev pub gives_array : Context → List Ref → Script
gives_array c vs = See (λ m. Ask (Does MakeArray vs m.table) (settled c))

abbrev pub finished : Context → Visits → List Ref → Script
finished c (Elements iterations.Map place) stand = gives_array c (drop 1 stand)
finished c (Elements iterations.Select place) stand = gives_array c (drop 1 stand)
finished c visits stand = Ret (Gave (slice_index_or stand 0 Nil))

-- The block is called for a turn, in a frame of its own, as `yield` calls it. That is a step of its own.
abbrev pub turn_of : Context → Iterated → Option Shape → List Ref → Memory → Script
turn_of c i None vs m = throw c NoBlock
turn_of c i (Some shape) vs m =
    to_given c (given_values shape.parameters vs m.table) (λ ws. opened c (OfBlock (top m.calls.frames)) shape.parameters shape.size ws None m.calls (Evaluate (TurnPart i) Ret))

-- the turn of a block that gets a new array
abbrev pub array_turn : Context → Iterated → Ref → Script
array_turn c i a = See (λ m. turn_of c i (shape_in (Some i.block)) (a ∷ []) m)

-- whether a block gets a key and its value as one array: where it has one parameter
abbrev pub takes_array : Visits → Option Shape → Bool
takes_array (Pairs place) (Some shape) = nat_eq shape.parameters 1
takes_array visits shape = false

abbrev pub or_nil : Option Ref → Ref
or_nil None = Nil
or_nil (Some v) = v

-- the turn over up to two values, of which an array is made, where the block gets one
abbrev pub turn_over : Context → Iterated → Bool → Option Ref → Option Ref → Memory → Script
turn_over c i true first last m = paired (or_nil first) (or_nil last) (array_turn c i)
turn_over c i false first last m = turn_of c i (shape_in (Some i.block)) (list_of first ++ list_of last) m

abbrev pub taken_up : Context → Iterated → Ahead → Memory → Script
taken_up c i (Another first last more) m = turn_over c (record i { visits = more }) (takes_array more (shape_in (Some i.block))) first last m
taken_up c i Finished m = finished c i.visits i.stand
taken_up c i (Stopped problem) m = throw c problem

-- what is ahead is seen when the turn before has ended
abbrev pub continued : Context → Iterated → Script
continued c i = See (λ m. taken_up c i (ahead i.visits i.stand m.table) m)

-- the same behind a turn that had a value
abbrev pub continued_by : Context → Iterated → Result (Option Ref) Problem → Script
continued_by c i (Ok found) = continued c (record i { stand = i.stand ++ list_of found })
continued_by c i (Err problem) = throw c problem

abbrev pub continued_with : Context → Iterated → Ref → Script
continued_with c i v = See (λ m. continued_by c i (kept i.visits v i.stand m.table))

-- what an exception comes to that is raised in a turn: `loop` takes a StopIteration, and has the value nil then
abbrev pub stopped : Context → Visits → Ref → Table → Answer
stopped c Forever e t = if descends c.program (class_at t e).0 STOP_ITERATION.0 then Gave Nil else Raised e
stopped c _ e t = Raised e

-- What an answer comes to that ends an iteration with the turn: `break` gives the iteration its value, and `return` ends the method in which
-- the block stands, whose frame is `root`.
abbrev pub left_turn : Context → Visits → ℕ → Table → Answer → Answer
left_turn c visits root t (Gave v) = Gave v
left_turn c visits root t (Raised e) = stopped c visits e t
left_turn c visits root t (Broke v) = Gave v
left_turn c visits root t (Done v) = Gave v
left_turn c visits root t (Returned v) = Ends (Method root) v
left_turn c visits root t (Ends number v) = Ends number v

-- the statements' value and `next` end the turn alone
abbrev pub turn_ended : Context → Iterated → ℕ → Answer → Script
turn_ended c i root (Gave v) = continued_with c i v
turn_ended c i root (Done v) = continued_with c i v
turn_ended c i root a = See (λ m. Ret (left_turn c i.visits root m.table a))

-- a turn ends, and its frame goes
abbrev pub turned : Context → Iterated → Answer → Script
turned c i a = See (λ m. Do without_frame (turn_ended c i (running m.calls.frames).root a))

-- the statements of a block
abbrev pub body_in : Tree → Tree
body_in (block x parameters size body) = body
body_in t = nil

-- what an iteration visits that begins
abbrev pub visits_of : Iteration → Ref → Kind → Option Visits
visits_of iterations.Times v k = Some (Times (pos 0))
visits_of iterations.Upto (Int z) k = Some (Upto z)
visits_of i v Array = Some (Elements i 0)
visits_of iterations.Each v Hash = Some (Pairs 1)
visits_of i v k = None

-- why a call does not begin, where `missing` is the problem of a method that the receiver lacks
abbrev pub problem_of : Problem → Outcome → Problem
problem_of missing (Raises p) = BuiltIn p
problem_of missing Lacks = missing
problem_of missing (Gives x) = NotHere

-- what a call of an iteration begins to visit, or why it does not begin
abbrev pub begins : Problem → Option Outcome → Option Visits → Result Visits Problem
begins missing (Some refused) visits = Err (problem_of missing refused)
begins missing None None = Err NotHere
begins missing None (Some visits) = Ok visits

abbrev pub beginning : Sym → Option Iteration → List Ref → Table → Result Visits Problem
beginning x None vs t = Err NotHere
beginning x (Some i) [] t = Err NotHere
beginning x (Some i) (v ∷ vs) t = begins (MissingMethod (callees.Name x) (receiver_of t v)) (refusal t v i vs) (visits_of i v (kind_at t v))

-- values, where each of them that is published is known
abbrev pub own_values : Table → List Value → Option (List Ref)
own_values t [] = Some []
own_values t (x ∷ xs) = spread_with (own_of t x) (own_values t xs)

-- the key objects that a hash has now; where they are not given yet, none
abbrev pub keys_given : Table → Ref → Option (List Ref)
keys_given t v = if is_hash (kind_at t v) then own_values t (names_of_hash t v) else None

-- the values that stand for an iteration that begins: its receiver and its arguments, and then the keys of a hash
abbrev pub stand_of_first : Visits → List Ref → Table → Option (List Ref)
stand_of_first (Pairs place) vs t = option_map (λ keys. vs ++ keys) (keys_given t (slice_index_or vs 0 Nil))
stand_of_first visits vs t = Some vs

abbrev pub begun_over : Context → Visits → Tree → Option (List Ref) → Script
begun_over c visits b None = throw c NotHere
begun_over c visits b (Some stand) = continued c (record { visits = visits; stand = stand; block = b })

abbrev pub begun : Context → Result Visits Problem → List Ref → Tree → Table → Script
begun c (Ok visits) vs b t = begun_over c visits b (stand_of_first visits vs t)
begun c (Err problem) vs b t = throw c problem

-- a call of an iteration with a block
abbrev pub iteration_rule : Context → Sym → Tree → List Ref → Script
iteration_rule c x b vs = See (λ m. begun c (beginning x (iteration_named (slice_index_or c.symbols x.0 [])) vs m.table) vs b m.table)

-- `loop`
abbrev pub is_loop : List ℕ → Bool
is_loop name = bytes_eq name (codes "loop")
