-- Calls of methods and of blocks, and how they end.
use Rattle.std.specs.Prelude.{ℕ, zero, suc, ◌-◌, nat_eq, nat_lt, Bool, true, false, not, List, [], ◌∷◌, ◌++◌, length, take, if◌then◌else◌, slice_index_or, Option, Some, None}
use Rattle.rr_builtin.specs.Kinds.{is_array_kind}
use Rattle.rr_builtin.specs.Rounds.{Read, Reads, ReadsNone, IsMoved, item_at}
use Rattle.rr_builtin.specs.declared.problem.Problem.TheVariants.{TooDeep}
use Rattle.rr_frames.specs.Frames.{Stack, Frame as Activated, frame_at, laid, left}
use Rattle.rr_frames.specs.declared.activation.Activation.{Activation}
use Rattle.rr_frames.specs.declared.activation.Given.{Given}
use Rattle.rr_frames.specs.declared.activation.Shape.{Shape}
use Rattle.rr_frames.specs.declared.activation.Given.TheVariants as given
use Rattle.rr_space.specs.Kinds.{kind_at}
use Rattle.rr_space.specs.Tables.{Table}
use Rattle.rr_space.specs.Parts.{truth_ref}
use Rattle.rr_space.specs.declared.refer.Ref.{Ref}
use Rattle.rr_space.specs.declared.refer.Ref.TheVariants.{Nil}
use Rattle.rr_tree.specs.Tree.{Tree, nil, block}
use Rattle.rr_base.specs.declared.name.ClassId.{ClassId}
use Rattle.rr_eval.specs.declared.call_stack.Entry.{Entry}
use Rattle.rr_eval.specs.declared.call_stack.Invocation.{Invocation}
use Rattle.rr_eval.specs.declared.call_stack.Handed.{Handed}
use Rattle.rr_eval.specs.declared.call_stack.Handed.TheVariants as handed
use Rattle.rr_eval.specs.declared.call_stack.CallValue.{CallValue}
use Rattle.rr_eval.specs.declared.call_stack.CallValue.TheVariants as value
use Rattle.rr_builtin.specs.Objects.{is_truthy}
use Rattle.rr_eval.specs.declared.call_stack.Entry.TheVariants.{OfMethod, OfBlock}
use Rattle.rr_eval.specs.declared.problem.Answer.{Answer}
use Rattle.rr_eval.specs.declared.problem.Exit.TheVariants as exits
use Rattle.rr_eval.specs.declared.problem.Answer.TheVariants.{Gave, Raised, Broke, Done, Returned, Ends}
use Rattle.rr_eval.specs.declared.problem.Problem.TheVariants.{BuiltIn, NoBlock, Jump}
use Rattle.rr_eval.specs.Basics.{throw, not_here}
use Rattle.rr_eval.specs.Context.{Context}
use Rattle.rr_eval.specs.Methods.{Method}
use Rattle.rr_eval.specs.Responses.{own_of}
use Rattle.rr_eval.specs.Script.{Script, Ret, Go, See, Do, Memory}
use Rattle.rr_eval.specs.Variables.{top}

-- what the frame that runs has beside its variables
abbrev pub running : List Activated → Activation
running frames = (frame_at (top frames) frames).activation

-- A block that a method is given stands in the frame before; `super` passes the block of the method that runs.
abbrev pub given_in : Handed → List Activated → Given
given_in handed.Nothing frames = given.Nothing
given_in handed.Beside frames = given.Block (length frames) (length frames - 1)
given_in handed.Same frames = (running frames).given

-- What a new frame has beside its variables. A block's frame lies in the one in which the block stands: it has its `self`, and its `yield`
-- calls the block that that method was given.
abbrev pub activation_in : Entry → List Activated → Activation
activation_in (OfMethod call) frames = record { itself = call.itself; given = given_in call.block frames; home = length frames; root = length frames; name = call.name; class = call.class; parameters = call.parameters }
activation_in (OfBlock home) frames = record (frame_at home frames).activation { home = home }

-- one frame more, and the block that its method is given
abbrev pub with_frame : Activated → Option Tree → Memory → Memory
with_frame f b m = record m { calls = record m.calls { frames = m.calls.frames ++ f ∷ [] }; blocks = m.blocks ++ b ∷ [] }

-- the last frame goes
abbrev pub without_frame : Memory → Memory
without_frame m = record m { calls = record m.calls { frames = left m.calls.frames }; blocks = take (length m.blocks - 1) m.blocks }

-- What ends a method, whose frame has the number: a `return`, and what ends that frame. A `break` out of the block that its call has ends the
-- call. No other `break` and no `next` stands outside of a loop or block; one would end the method too.
abbrev pub returned : ℕ → Answer → Answer
returned number (Gave v) = Gave v
returned number (Raised e) = Raised e
returned number (Broke v) = Gave v
returned number (Done v) = Gave v
returned number (Returned v) = Gave v
returned number (Ends (exits.Method other) v) = if nat_eq other number then Gave v else Ends (exits.Method other) v
returned number (Ends (exits.Call other) v) = if nat_eq other number then Broke v else Ends (exits.Call other) v

-- the value of a call, by the method's
abbrev pub value_by : CallValue → Ref → Ref
value_by value.Method v = v
value_by (value.Other w) v = w
value_by value.Opposite v = truth_ref (not (is_truthy v))
value_by (value.Raises e) v = e

-- what a call ends with whose method has a value: an exception that was made for `raise` is raised
abbrev pub gave_by : CallValue → Ref → Answer
gave_by value.Method v = Gave (value_by value.Method v)
gave_by (value.Other w) v = Gave (value_by (value.Other w) v)
gave_by value.Opposite v = Gave (value_by value.Opposite v)
gave_by (value.Raises e) v = Raised e

-- the value of a `break` that ends the call is the call's, whatever the method's would be
abbrev pub valued : CallValue → Answer → Answer
valued by (Gave v) = gave_by by v
valued by (Raised e) = Raised e
valued by (Broke v) = Gave v
valued by (Done v) = Done v
valued by (Returned v) = Returned v
valued by (Ends number v) = Ends number v

-- a method ends, and its frame goes
abbrev pub back : CallValue → Answer → Script
back by a = See (λ m. Do without_frame (Ret (valued by (returned (top m.calls.frames) a))))

-- the frame of the method that was given the block which a `yield` in a frame calls
abbrev pub given_frame : Given → ℕ → ℕ
given_frame given.Nothing root = root
given_frame (given.Block number home) root = number

abbrev pub owner_in : Activation → ℕ
owner_in a = given_frame a.given a.root

-- What ends a block that a `yield` calls: `next` ends its turn, `break` the call that has the block, whose frame is `owner`, and
-- `return` the method in which the block stands, whose frame is `root`.
abbrev pub passed : ℕ → ℕ → Answer → Answer
passed owner root (Gave v) = Gave v
passed owner root (Raised e) = Raised e
passed owner root (Broke v) = Ends (exits.Call owner) v
passed owner root (Done v) = Gave v
passed owner root (Returned v) = Ends (exits.Method root) v
passed owner root (Ends other v) = Ends other v

-- The block of a ractor is no call's: the frame below is the program's, whose number is 0. A `break` out of it has no call to end.
abbrev pub left_block : Context → ℕ → ℕ → Answer → Script
left_block c owner root (Broke v) = if nat_eq owner 0 then throw c Jump else Ret (passed owner root (Broke v))
left_block c owner root a = Ret (passed owner root a)

-- a block ends, and its frame goes
abbrev pub past : Context → Answer → Script
past c a = See (λ m. Do without_frame (See (λ k. left_block c (owner_in (running k.calls.frames)) (running m.calls.frames).root a)))

-- how a new frame ends
abbrev pub left_by : Context → Entry → Answer → Script
left_by c (OfMethod call) = back call.value
left_by c (OfBlock home) = past c

-- goes on in a frame more, where there may be one, whose parameters have these values and whose other variables are nil
abbrev pub opened : Context → Entry → ℕ → ℕ → List Ref → Option Tree → Stack → Script → Script
opened c entry parameters size vs b s next =
    if nat_lt (length s.frames) s.limit then Do (with_frame (record { variables = laid parameters size vs; activation = activation_in entry s.frames }) b) next
    else throw c (BuiltIn TooDeep)

-- a body in a frame of its own
abbrev pub framed : Context → Entry → ℕ → ℕ → List Ref → Option Tree → Tree → Stack → Script
framed c entry parameters size vs b body s = opened c entry parameters size vs b s (Go body (left_by c entry))

-- how a method of the program is called: on which receiver, with which block, whose tree is there, and what the value of the call is
pub record Way : Type 0 where
  pub receiver : Ref
  pub block : Handed
  pub tree : Option Tree
  pub value : CallValue

abbrev pub invocation : Way → ClassId → Method → Invocation
invocation w class m = record { itself = w.receiver; name = record { 0 = m.name }; class = class; parameters = m.parameters; block = w.block; value = w.value }

-- a method's statements
abbrev pub entered : Context → Way → ClassId → Method → List Ref → Stack → Script
entered c w class m vs s = framed c (OfMethod (invocation w class m)) m.parameters m.size vs w.tree m.body s

-- whether one array is given to several parameters
abbrev pub spreads : ℕ → List Ref → Table → Bool
spreads parameters (v ∷ []) t = if nat_lt 1 parameters then is_array_kind (kind_at t v) else false
spreads parameters vs t = false

-- a value more of those that are spread, and the values behind it
abbrev pub spread_with : Option Ref → Option (List Ref) → Option (List Ref)
spread_with (Some v) (Some vs) = Some (v ∷ vs)
spread_with _ _ = None

abbrev pub spread_read : Table → Read → Option (List Ref) → Option (List Ref)
spread_read t (Reads x) others = spread_with (own_of t x) others
spread_read t ReadsNone others = Some []
spread_read t IsMoved others = None

-- so many elements of an array from a place on, where each of them that is published is known
abbrev pub spread_from : Table → Ref → ℕ → ℕ → Option (List Ref)
spread_from t v place zero = Some []
spread_from t v place (suc count) = spread_read t (item_at t v place) (spread_from t v (suc place) count)

-- what the parameters of a block get: the elements of one array, where it is given to several
abbrev pub given_values : ℕ → List Ref → Table → Option (List Ref)
given_values parameters vs t = if spreads parameters vs t then spread_from t (slice_index_or vs 0 Nil) 0 parameters else Some vs

-- a published element that is not known is not spread yet
abbrev pub to_given : Context → Option (List Ref) → (List Ref → Script) → Script
to_given c None next = not_here c
to_given c (Some vs) next = next vs

-- how many parameters and how many variables a block has, and its tree
abbrev pub shape_in : Option Tree → Option Shape
shape_in (Some (block x parameters size body)) = Some (record { parameters = parameters; size = size })
shape_in _ = None

abbrev pub tree_in : Option Tree → Tree
tree_in None = nil
tree_in (Some t) = t

-- A block is called, which stands in the frame `home`; that is a step of its own.
abbrev pub called_as : Context → Option Shape → Tree → ℕ → List Ref → Memory → Script
called_as c None t home vs m = throw c NoBlock
called_as c (Some shape) t home vs m =
    to_given c (given_values shape.parameters vs m.table) (λ ws. framed c (OfBlock home) shape.parameters shape.size ws None t m.calls)

abbrev pub called : Context → Option Tree → ℕ → List Ref → Memory → Script
called c b home vs m = called_as c (shape_in b) (tree_in b) home vs m

-- `yield` calls the block that the method was given
abbrev pub yield_to : Context → Given → List Ref → Memory → Script
yield_to c given.Nothing vs m = throw c NoBlock
yield_to c (given.Block number home) vs m = called c (slice_index_or m.blocks number None) home vs m

abbrev pub yield_rule : Context → List Ref → Script
yield_rule c vs = See (λ m. yield_to c (running m.calls.frames).given vs m)

-- `block_given?`
abbrev pub is_given : Given → Bool
is_given given.Nothing = false
is_given (given.Block number home) = true

abbrev pub given_rule : Script
given_rule = See (λ m. Ret (Gave (truth_ref (is_given (running m.calls.frames).given))))

-- whether a block runs that stands in no method
abbrev pub is_outside : List Activated → Bool
is_outside frames = if nat_eq (running frames).root 0 then nat_lt 0 (top frames) else false

-- `return` leaves the method; a block that stands in none has none to leave
abbrev pub return_rule : Context → Ref → Script
return_rule c v = See (λ m. if is_outside m.calls.frames then throw c Jump else Ret (Returned v))
