-- Scripts that take no object away.
use Rattle.std.proofs.Common.{nat_eq, nat_lt, slice_index_or, if◌then◌else◌, ◌≤◌, ℕ, Bool, arith, List, [], ◌∷◌, ◌++◌, length, length-append, Option, Some, None, Result, Ok, Err, true, false}
use Rattle.rr_base.specs.Classes.{class_id}
use Rattle.rr_base.specs.declared.name.Sym.{Sym}
use Rattle.rr_base.specs.declared.name.TheConstants.ClassId.{RUNTIME_ERROR}
use Rattle.rr_base.specs.declared.name.ClassId.{ClassId}
use Rattle.rr_space.specs.Tables.{Table, Here}
use Rattle.rr_space.specs.Lookups.{text_object, frozen_text}
use Rattle.rr_space.specs.declared.refer.Ref.{Ref}
use Rattle.rr_space.specs.declared.refer.Ref.TheVariants.{Int, Local}
use Rattle.rr_space.specs.declared.refer.Ref.TheVariants as refs
use Rattle.rr_tree.specs.Tree.{Tree}
use Rattle.rr_frames.specs.Frames.{Stack, list_of}
use Rattle.rr_frames.specs.declared.activation.Given.{Given}
use Rattle.rr_frames.specs.declared.activation.Given.TheVariants as given
use Rattle.rr_frames.specs.declared.activation.Shape.{Shape}
use Rattle.rr_eval.specs.declared.call_stack.CallValue.{CallValue}
use Rattle.rr_eval.specs.declared.call_stack.Entry.{Entry}
use Rattle.rr_eval.specs.declared.call_stack.Entry.TheVariants.{OfMethod, OfBlock}
use Rattle.rr_eval.specs.Variables.{top}
use Rattle.rr_eval.specs.Blocks.{given_values, to_given, shape_in, tree_in, called_as, owner_in, left_block}
use Rattle.rr_eval.specs.declared.problem.Answer.{Answer}
use Rattle.rr_eval.specs.declared.problem.Answer.TheVariants.{Gave, Raised, Broke, Done, Returned, Ends}
use Rattle.rr_eval.specs.declared.problem.Response.{Response}
use Rattle.rr_eval.specs.declared.problem.Response.TheVariants.{Gives, Throws, Fails}
use Rattle.rr_eval.specs.declared.problem.Problem.{Problem}
use Rattle.rr_eval.specs.declared.problem.Problem.TheVariants.{BuiltIn, NotRaisable, Unhandled, NoBlock, Jump, NotHere}
use Rattle.rr_builtin.specs.declared.problem.Problem.TheVariants.{Count, TooDeep, Moved}
use Rattle.rr_eval.specs.Script.{Memory, Script, Iterated, Ret, TurnPart, Evaluate, Go, See, Do, Ask}
use Rattle.rr_eval.specs.Operators.{make}
use Rattle.rr_eval.specs.Rules.{Context, throw, raise, settled, on_value, in_loop, framed, running, left_by, yield_to, is_outside, return_rule, back, past, opened}
use Rattle.rr_builtin.specs.Iterations.{iteration_named}
use Rattle.rr_builtin.specs.declared.iterations.Iteration.TheVariants as iterations
use Rattle.rr_eval.specs.declared.iterating.Ahead.{Ahead}
use Rattle.rr_eval.specs.declared.iterating.Ahead.TheVariants.{Another, Finished, Stopped}
use Rattle.rr_eval.specs.declared.iterating.Visits.{Visits}
use Rattle.rr_eval.specs.declared.iterating.Visits.TheVariants.{Times, Upto, Elements, Pairs, Nothing, Forever}
use Rattle.rr_eval.specs.Pairs.{both_object, with_both, paired}
use Rattle.rr_eval.specs.Iterating.{ahead, kept, finished, turn_of, array_turn, takes_array, or_nil, turn_over, taken_up, continued, continued_by, continued_with, turn_ended, turned, beginning, stand_of_first, begun_over, begun, iteration_rule}
use Rattle.rr_eval.specs.Raising.{message_or_nil, raise_new, raise_kind, raise_again, raise_values, raised_beside, raise_beside, raise_rule}
use Rattle.rr_builtin.specs.News.{is_exception_class}
use Rattle.rr_space.specs.Kinds.{kind_at}
use Rattle.rr_space.specs.declared.kind.Kind.{Kind}
use Rattle.rr_space.specs.declared.kind.Kind.TheVariants as kinds
use Rattle.rr_eval.specs.Messages.{message, exception_class}
use Rattle.rr_eval.specs.Exceptions.{exception_object, with_exception}

-- the objects of a table
abbrev pub count : Table → ℕ
count t = length t.slots

pub make_keeps : (frozen : Bool) (bytes : List ℕ) (t : Table) → count t ≤ count (make frozen bytes t).1
make_keeps true bytes t = omega (arith, length-append t.slots (Here (frozen_text bytes) ∷ []))
make_keeps false bytes t = omega (arith, length-append t.slots (Here (text_object bytes) ∷ []))

-- a script whose acts take no object away
abbrev pub Keeps : Script → Type 0
Keeps (Ret a) = Unit {0}
Keeps (Evaluate part next) = (a : Answer) → Keeps (next a)
Keeps (See look) = (m : Memory) → Keeps (look m)
Keeps (Do act next) = ((m : Memory) → count m.table ≤ count (act m).table) × Keeps next
Keeps (Ask q next) = (r : Response) → Keeps (next r)

pub on_value_keeps : (next : Ref → Script) → ((v : Ref) → Keeps (next v)) → (a : Answer) → Keeps (on_value next a)
on_value_keeps next h (Gave v) = h v
on_value_keeps next h (Raised e) = tt
on_value_keeps next h (Broke v) = tt
on_value_keeps next h (Done v) = tt
on_value_keeps next h (Returned v) = tt
on_value_keeps next h (Ends number v) = tt

pub loop_keeps : (again : Script) (next : Ref → Script) → Keeps again → ((v : Ref) → Keeps (next v)) → (a : Answer) → Keeps (in_loop again next a)
loop_keeps again next kept h (Gave v) = h v
loop_keeps again next kept h (Raised e) = tt
loop_keeps again next kept h (Broke v) = tt
loop_keeps again next kept h (Done v) = kept
loop_keeps again next kept h (Returned v) = tt
loop_keeps again next kept h (Ends number v) = tt

pub exception_keeps : (class : ClassId) (message cause : Ref) (t : Table) → count t ≤ count (with_exception class message cause t)
exception_keeps class message cause t = omega (arith, length-append t.slots (Here (exception_object class message cause) ∷ []))

pub raise_keeps : (class : ClassId) (message : Ref) → Keeps (raise class message)
raise_keeps class message = λ m. (λ k. exception_keeps class message k.rescuing k.table, tt)

pub throw_keeps : (c : Context) (e : Problem) → Keeps (throw c e)
throw_keeps c e = λ m. (λ k. make_keeps false (message c e) k.table, raise_keeps (class_id (exception_class e)) (Local (length m.table.slots)))

pub settled_keeps : (c : Context) (r : Response) → Keeps (settled c r)
settled_keeps c (Gives v) = tt
settled_keeps c (Throws e) = tt
settled_keeps c (Fails e) = throw_keeps c e

pub if_keeps : (b : Bool) (p q : Script) → Keeps p → Keeps q → Keeps (if b then p else q)
if_keeps true p q kept other = kept
if_keeps false p q kept other = other

pub back_keeps : (by : CallValue) (a : Answer) → Keeps (back by a)
back_keeps by a = λ l. (λ m. omega arith, tt)

left_block_keeps : (c : Context) (owner root : ℕ) (a : Answer) → Keeps (left_block c owner root a)
left_block_keeps c owner root (Gave v) = tt
left_block_keeps c owner root (Raised e) = tt
left_block_keeps c owner root (Broke v) = if_keeps (nat_eq owner 0) (throw c Jump) _ (throw_keeps c Jump) tt
left_block_keeps c owner root (Done v) = tt
left_block_keeps c owner root (Returned v) = tt
left_block_keeps c owner root (Ends number v) = tt

pub past_keeps : (c : Context) (a : Answer) → Keeps (past c a)
past_keeps c a = λ l. (λ m. omega arith, λ k. left_block_keeps c (owner_in (running k.calls.frames)) (running l.calls.frames).root a)

pub left_keeps : (c : Context) (entry : Entry) (a : Answer) → Keeps (left_by c entry a)
left_keeps c (OfMethod call) a = back_keeps call.value a
left_keeps c (OfBlock home) a = past_keeps c a

pub opened_keeps : (c : Context) (entry : Entry) (parameters size : ℕ) (vs : List Ref) (b : Option Tree) (s : Stack) (next : Script) → Keeps next → Keeps (opened c entry parameters size vs b s next)
opened_keeps c entry parameters size vs b s next kept = if_keeps (nat_lt (length s.frames) s.limit) _ _ (λ l. omega arith, kept) (throw_keeps c (BuiltIn TooDeep))

pub framed_keeps : (c : Context) (entry : Entry) (parameters size : ℕ) (vs : List Ref) (b : Option Tree) (body : Tree) (s : Stack) → Keeps (framed c entry parameters size vs b body s)
framed_keeps c entry parameters size vs b body s = opened_keeps c entry parameters size vs b s (Go body (left_by c entry)) (λ a. left_keeps c entry a)

pub to_given_keeps : (c : Context) (vs : Option (List Ref)) (next : List Ref → Script) → ((ws : List Ref) → Keeps (next ws)) → Keeps (to_given c vs next)
to_given_keeps c None next kept = throw_keeps c NotHere
to_given_keeps c (Some vs) next kept = kept vs

pub called_keeps : (c : Context) (shape : Option Shape) (t : Tree) (home : ℕ) (vs : List Ref) (m : Memory) → Keeps (called_as c shape t home vs m)
called_keeps c None t home vs m = throw_keeps c NoBlock
called_keeps c (Some shape) t home vs m = to_given_keeps c (given_values shape.parameters vs m.table) _ (λ ws. framed_keeps c (OfBlock home) shape.parameters shape.size ws None t m.calls)

pub yield_keeps : (c : Context) (g : Given) (vs : List Ref) (m : Memory) → Keeps (yield_to c g vs m)
yield_keeps c given.Nothing vs m = throw_keeps c NoBlock
yield_keeps c (given.Block number home) vs m = called_keeps c (shape_in (slice_index_or m.blocks number None)) (tree_in (slice_index_or m.blocks number None)) home vs m

-- iterations
pub turn_of_keeps : (c : Context) (i : Iterated) (shape : Option Shape) (vs : List Ref) (m : Memory) → Keeps (turn_of c i shape vs m)
turn_of_keeps c i None vs m = throw_keeps c NoBlock
turn_of_keeps c i (Some shape) vs m =
    to_given_keeps c (given_values shape.parameters vs m.table) _
    (λ ws. opened_keeps c (OfBlock (top m.calls.frames)) shape.parameters shape.size ws None m.calls (Evaluate (TurnPart i) Ret) (λ a. tt))

pub finished_keeps : (c : Context) (v : Visits) (stand : List Ref) → Keeps (finished c v stand)
finished_keeps c (Elements iterations.Map place) stand = λ m. settled_keeps c
finished_keeps c (Elements iterations.Select place) stand = λ m. settled_keeps c
finished_keeps c (Elements iterations.Times place) stand = tt
finished_keeps c (Elements iterations.Upto place) stand = tt
finished_keeps c (Elements iterations.Each place) stand = tt
finished_keeps c (Elements iterations.EachWithIndex place) stand = tt
finished_keeps c (Times z) stand = tt
finished_keeps c (Upto z) stand = tt
finished_keeps c (Pairs place) stand = tt
finished_keeps c Nothing stand = tt
finished_keeps c Forever stand = tt

both_keeps : (v w : Ref) (t : Table) → count t ≤ count (with_both v w t)
both_keeps v w t = omega (arith, length-append t.slots (Here (both_object v w) ∷ []))

pub paired_keeps : (v w : Ref) (next : Ref → Script) → ((a : Ref) → Keeps (next a)) → Keeps (paired v w next)
paired_keeps v w next kept = λ m. (λ k. both_keeps v w k.table, kept (Local (length m.table.slots)))

pub array_turn_keeps : (c : Context) (i : Iterated) (a : Ref) → Keeps (array_turn c i a)
array_turn_keeps c i a = λ m. turn_of_keeps c i (shape_in (Some i.block)) (a ∷ []) m

turn_over_keeps : (c : Context) (i : Iterated) (array : Bool) (first last : Option Ref) (m : Memory) → Keeps (turn_over c i array first last m)
turn_over_keeps c i true first last m = paired_keeps (or_nil first) (or_nil last) (array_turn c i) (array_turn_keeps c i)
turn_over_keeps c i false first last m = turn_of_keeps c i (shape_in (Some i.block)) (list_of first ++ list_of last) m

pub taken_up_keeps : (c : Context) (i : Iterated) (a : Ahead) (m : Memory) → Keeps (taken_up c i a m)
taken_up_keeps c i (Another first last more) m = turn_over_keeps c (record i { visits = more }) (takes_array more (shape_in (Some i.block))) first last m
taken_up_keeps c i Finished m = finished_keeps c i.visits i.stand
taken_up_keeps c i (Stopped problem) m = throw_keeps c problem

pub continued_keeps : (c : Context) (i : Iterated) → Keeps (continued c i)
continued_keeps c i = λ m. taken_up_keeps c i (ahead i.visits i.stand m.table) m

pub continued_by_keeps : (c : Context) (i : Iterated) (r : Result (Option Ref) Problem) → Keeps (continued_by c i r)
continued_by_keeps c i (Ok found) = continued_keeps c (record i { stand = i.stand ++ list_of found })
continued_by_keeps c i (Err problem) = throw_keeps c problem

pub continued_with_keeps : (c : Context) (i : Iterated) (v : Ref) → Keeps (continued_with c i v)
continued_with_keeps c i v = λ m. continued_by_keeps c i (kept i.visits v i.stand m.table)

pub turn_ended_keeps : (c : Context) (i : Iterated) (root : ℕ) (a : Answer) → Keeps (turn_ended c i root a)
turn_ended_keeps c i root (Gave v) = continued_with_keeps c i v
turn_ended_keeps c i root (Done v) = continued_with_keeps c i v
turn_ended_keeps c i root (Raised e) = λ m. tt
turn_ended_keeps c i root (Broke v) = λ m. tt
turn_ended_keeps c i root (Returned v) = λ m. tt
turn_ended_keeps c i root (Ends number v) = λ m. tt

pub turned_keeps : (c : Context) (i : Iterated) (a : Answer) → Keeps (turned c i a)
turned_keeps c i a = λ m. (λ k. omega arith, turn_ended_keeps c i (running m.calls.frames).root a)

pub begun_over_keeps : (c : Context) (visits : Visits) (b : Tree) (stand : Option (List Ref)) → Keeps (begun_over c visits b stand)
begun_over_keeps c visits b None = throw_keeps c NotHere
begun_over_keeps c visits b (Some stand) = continued_keeps c (record { visits = visits; stand = stand; block = b })

pub begun_keeps : (c : Context) (r : Result Visits Problem) (vs : List Ref) (b : Tree) (t : Table) → Keeps (begun c r vs b t)
begun_keeps c (Ok visits) vs b t = begun_over_keeps c visits b (stand_of_first visits vs t)
begun_keeps c (Err problem) vs b t = throw_keeps c problem

pub iteration_keeps : (c : Context) (x : Sym) (b : Tree) (vs : List Ref) → Keeps (iteration_rule c x b vs)
iteration_keeps c x b vs = λ m. begun_keeps c (beginning x (iteration_named (slice_index_or c.symbols x.0 [])) vs m.table) vs b m.table

pub return_keeps : (c : Context) (v : Ref) → Keeps (return_rule c v)
return_keeps c v = λ m. if_keeps (is_outside m.calls.frames) (throw c Jump) (Ret (Returned v)) (throw_keeps c Jump) tt

pub raise_new_keeps : (c : Context) (v : Ref) (message : Option Ref) → Keeps (raise_new c v message)
raise_new_keeps c (refs.Class k) message = if_keeps (is_exception_class c.program k.0) (raise k (message_or_nil message)) (throw c NotRaisable) (raise_keeps k (message_or_nil message)) (throw_keeps c NotRaisable)
raise_new_keeps c refs.Nil message = throw_keeps c NotRaisable
raise_new_keeps c refs.False message = throw_keeps c NotRaisable
raise_new_keeps c refs.True message = throw_keeps c NotRaisable
raise_new_keeps c (Int z) message = throw_keeps c NotRaisable
raise_new_keeps c (refs.Symbol s) message = throw_keeps c NotRaisable
raise_new_keeps c (refs.Ractor r) message = throw_keeps c NotRaisable
raise_new_keeps c (Local n) message = throw_keeps c NotRaisable
raise_new_keeps c (refs.Shared p o) message = throw_keeps c NotRaisable

pub raise_kind_keeps : (c : Context) (v : Ref) (message : Option Ref) (kind : Kind) → Keeps (raise_kind c v message kind)
raise_kind_keeps c v message kinds.Shell = throw_keeps c (BuiltIn Moved)
raise_kind_keeps c v None kinds.Text = raise_keeps RUNTIME_ERROR v
raise_kind_keeps c v None kinds.Exception = tt
raise_kind_keeps c v None _ = raise_new_keeps c v None
raise_kind_keeps c v (Some w) _ = raise_new_keeps c v (Some w)

pub again_keeps : (c : Context) (e : Ref) → Keeps (raise_again c e)
again_keeps c refs.Nil = throw_keeps c Unhandled
again_keeps c _ = tt

raise_values_keeps : (c : Context) (vs : List Ref) → Keeps (raise_values c vs)
raise_values_keeps c [] = λ m. again_keeps c m.rescuing
raise_values_keeps c (v ∷ []) = λ m. raise_kind_keeps c v None (kind_at m.table v)
raise_values_keeps c (v ∷ w ∷ []) = λ m. raise_kind_keeps c v (Some w) (kind_at m.table v)
raise_values_keeps c (v ∷ w ∷ x ∷ vs) = throw_keeps c (BuiltIn (Count (length (v ∷ w ∷ x ∷ vs)) 0 2))

raise_beside_keeps : (c : Context) (vs : List Ref) (two : Option (Ref × Ref)) → Keeps (raise_beside c vs two)
raise_beside_keeps c vs None = raise_values_keeps c vs
raise_beside_keeps c vs (Some two) = λ m. settled_keeps c

pub raise_rule_keeps : (c : Context) (vs : List Ref) → Keeps (raise_rule c vs)
raise_rule_keeps c vs = λ m. raise_beside_keeps c vs (raised_beside m.table m.rescuing vs)
