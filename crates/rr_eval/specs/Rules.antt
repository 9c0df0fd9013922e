-- The rules of the language, each on a whole tree.
use Rattle.std.specs.Prelude.{ℕ, ◌+◌, zero, suc, Bool, true, false, not, List, [], ◌∷◌, if◌then◌else◌, slice_index_or, length, Option, Some, None, codes, ◌++◌, is_some, ◌||◌}
use Rattle.rr_space.specs.Tables.{Table}
use Rattle.rr_space.specs.Parts.{truth_ref}
use Rattle.rr_space.specs.declared.refer.Ref.{Ref}
use Rattle.rr_space.specs.declared.refer.Ref.TheVariants.{Nil, Int, Symbol, Class}
use Rattle.rr_tree.specs.Tree.{Tree, tree_at, nil, truth, int, text, symbol, class_named as class_tree, constant, array, hash, pairs, pair, interpolation, itself as self_tree, field, set_field, set_attribute, super, forwarding_super, local, bare, call, send, index, set_index, append, logical_and, logical_or, logical_not, negate, binary, assign, choose, repeat, sequence, with_block, block, yield, break, next, return, rescue, ensure, operator_assign, append_assign, or_assign, and_assign, global, set_global, set_constant, splat, multiple_assign}
use Rattle.std.specs.Option.{option_map}
use Rattle.rr_base.specs.ClassNames.{class_named}
use Rattle.rr_builtin.specs.Objects.{is_truthy}
use Rattle.rr_eval.specs.declared.call.Callee.TheVariants as callees
use Rattle.rr_eval.specs.declared.call.Target.{Target}
use Rattle.rr_eval.specs.declared.call.Target.TheVariants.{Do as DoTarget, Call, Update, Own, Super, Yield, Raise, Iterate}
use Rattle.rr_eval.specs.declared.call.Task.{Task}
use Rattle.rr_eval.specs.declared.call.Task.TheVariants.{MakeArray, MakeText, MakeHash}
use Rattle.rr_eval.specs.declared.problem.Answer.{Answer}
use Rattle.rr_eval.specs.declared.problem.Answer.TheVariants.{Gave, Raised, Broke, Done, Returned, Ends}
use Rattle.rr_eval.specs.declared.problem.Problem.TheVariants.{MissingName}
use Rattle.rr_frames.specs.Frames.{Frame as Activated, laid, no_frame}
use Rattle.rr_eval.specs.Methods.{Callable}
use Rattle.rr_eval.specs.Callees.{has_built_in, method_of}
use Rattle.rr_space.specs.Kinds.{kind_at}
use Rattle.rr_eval.specs.Script.{State, Script, Ret, Go, See, Part, TreePart, TurnPart, CallPart, AssignPart, Memory, World, Outcome, Ended, Spent, Waits, Evaluation, run}
use Rattle.rr_eval.specs.declared.iterating.Visits.TheVariants.{Forever}
use Rattle.rr_eval.specs.Iterating.{continued, turned, body_in, iteration_rule, is_loop}
use Rattle.rr_eval.specs.Above.{super_rule, parameters_of}
use Rattle.rr_eval.specs.Fields.{field_rule, set_field_rule}
use Rattle.rr_eval.specs.declared.updating.Update.TheVariants as updates
use Rattle.rr_eval.specs.Updating.{place_of, accessed, operator_rule, update_rule, or_rule}
use Rattle.rr_eval.specs.Globals.{global_rule, set_global_rule}
use Rattle.rr_eval.specs.Values.{goes_on}
use Rattle.rr_eval.specs.Operators.{make}
use Rattle.rr_eval.specs.Tasks.{task_named}
use Rattle.rr_eval.specs.Awaited.{is_awaited, is_raise, is_block_given}
use Rattle.rr_eval.specs.RaisingNew.{raised_with}
use Rattle.rr_eval.specs.Rescuing.{rescue_rule, ensure_rule}
use Rattle.rr_eval.specs.Joins.{joining_call}
use Rattle.rr_eval.specs.Speaking.{task_rule}
use Rattle.rr_base.specs.declared.name.Sym.{Sym}
use Rattle.rr_builtin.specs.declared.iterations.Iteration.{Iteration}
use Rattle.rr_tree.specs.declared.node.Path.TheVariants.{Plain, Ractor as InRactor}
pub use Rattle.rr_eval.specs.Context.{Context}
pub use Rattle.rr_eval.specs.Basics.{items, on_value, with_value, read, write, raise, throw, settled, send_to, on_table, statements, values, variable_of, not_here}
pub use Rattle.rr_eval.specs.Dispatch.{operation, part_called, negation, method_for, run_method, send_rule, dispatched, way_of, iteration_of}
pub use Rattle.rr_eval.specs.Constants.{own_class, constant_rule, plain_constant, set_constant_rule}
pub use Rattle.rr_eval.specs.Splats.{spread, arguments}
use Rattle.rr_eval.specs.Several.{several_rule, put_in}
pub use Rattle.rr_eval.specs.Blocks.{running, with_frame, without_frame, returned, back, passed, past, left_by, opened, framed, entered, called, yield_to, yield_rule, given_rule, is_outside, return_rule, activation_in}

-- the key and the value of a pair; any other part of a hash stands for both
abbrev pub key_part : Tree → Tree
key_part (pair a b) = a
key_part t = t

abbrev pub value_part : Tree → Tree
value_part (pair a b) = b
value_part t = t

-- the keys and the values of pairs, in the order in which they are evaluated
abbrev pub pair_parts : List Tree → List Tree
pair_parts [] = []
pair_parts (t ∷ ts) = key_part t ∷ value_part t ∷ pair_parts ts

-- A `return` ends with the program. No `break` and no `next` stands outside of a loop or block, and all that ends a frame ends
-- one above; one would end the program too.
abbrev pub ended : Answer → Answer
ended (Gave v) = Gave v
ended (Raised e) = Raised e
ended (Broke v) = Gave v
ended (Done v) = Gave v
ended (Returned v) = Gave v
ended (Ends number v) = Gave v

-- a call of a name on `self`
abbrev pub self_rule : Context → Sym → Option Tree → List Ref → Script
self_rule c x b vs = See (λ m. send_rule c (callees.Name x) b (running m.calls.frames).itself vs)

-- A call of the first of these values with the others, and with a block: of a method of the program, or of an iteration.
abbrev pub block_sent : Context → Option Callable → Option Iteration → Sym → Tree → Ref → List Ref → Script
block_sent c None (Some i) x b v vs = iteration_rule c x b (v ∷ vs)
block_sent c f i x b v vs = dispatched c f (callees.Name x) (Some b) v vs

abbrev pub sent_block : Context → Sym → Tree → List Ref → Script
sent_block c x b [] = Ret (Gave Nil)
sent_block c x b (v ∷ vs) = See (λ m. block_sent c (method_for c m.table v (callees.Name x)) (iteration_of c (callees.Name x)) x b v vs)

-- what is done with values: they are printed or put into an array, a text or a hash, or the first of them is sent the others, or `self` is sent
-- them, with a block or without one, or they are given to a block, or they say what is raised, or the first of them is sent the others with a
-- block; or they say what is read and then assigned to
abbrev pub finish : Context → Target → List Ref → Script
finish c (DoTarget task) vs = task_rule c task vs
finish c (Call callee) [] = Ret (Gave Nil)
finish c (Call callee) (v ∷ vs) = joining_call c callee v vs
finish c (Update getter setter how b) vs = accessed c getter setter how (tree_at c.program.nodes.items b) vs
finish c (Own x b) vs = self_rule c x (option_map (tree_at c.program.nodes.items) b) vs
finish c Super vs = super_rule c vs
finish c Yield vs = yield_rule c vs
finish c Raise vs = raised_with c vs
finish c (Iterate x b) vs = sent_block c x (tree_at c.program.nodes.items b) vs

-- what a name prints by: `puts`, `p` and `print`
abbrev pub printing : Context → ℕ → Option Task
printing c x = task_named (slice_index_or c.symbols x [])

-- whether a name is `raise`
abbrev pub raises : Context → ℕ → Bool
raises c x = is_raise (slice_index_or c.symbols x [])

-- whether a name is `block_given?`
abbrev pub asks_block : Context → ℕ → Bool
asks_block c x = is_block_given (slice_index_or c.symbols x [])

-- whether a name is `loop`
abbrev pub loops : Context → ℕ → Bool
loops c x = is_loop (slice_index_or c.symbols x [])

-- whether a name is that of a method of `self` that is not evaluated yet
abbrev pub awaited : Context → ℕ → Bool
awaited c x = is_awaited (slice_index_or c.symbols x [])

-- the method of the program that a name calls on `self`
abbrev pub own_method : Context → ℕ → Memory → Option Callable
own_method c x m = method_for c m.table (running m.calls.frames).itself (callees.Name (record { 0 = x }))

-- a bare name that is none of a method of the program and none of those that only `self` has
abbrev pub name_rule : Context → Sym → Script
name_rule c x =
    See (λ m. if has_built_in (kind_at m.table (running m.calls.frames).itself) (method_of c (callees.Name x)) then dispatched c None (callees.Name x) None (running m.calls.frames).itself [] else throw c (MissingName x))

-- a bare name: one of a method of the program, one that prints, `raise`, `block_given?`, or another
abbrev pub bare_rule : Context → Option Callable → Option Task → Bool → Bool → Sym → Script
bare_rule c (Some f) task raises asks x = See (λ m. run_method c f (way_of (callees.Name x) None (running m.calls.frames).itself []) [])
bare_rule c None (Some task) raises asks x = finish c (DoTarget task) []
bare_rule c None None true asks x = finish c Raise []
bare_rule c None None false true x = given_rule
bare_rule c None None false false x = name_rule c x

-- A call with arguments: of a method of the program, of a name that prints, of `raise`, of one that is not evaluated yet, or of a built-in
-- method of `self`.
abbrev pub call_rule : Context → Option Callable → Option Task → Bool → Bool → Sym → List Tree → Script
call_rule c (Some f) task raises later x ts = arguments c ts [] (finish c (Own x None))
call_rule c None (Some task) raises later x ts = arguments c ts [] (finish c (DoTarget task))
call_rule c None None true later x ts = arguments c ts [] (finish c Raise)
call_rule c None None false true x ts = not_here c
call_rule c None None false false x ts = arguments c ts [] (finish c (Own x None))

-- whether only `self` has a method of the name
abbrev pub only_own : Context → ℕ → Bool
only_own c x = is_some (printing c x) || (raises c x || awaited c x)

-- A call with a block: of a method of the program, of `loop`, of another method that only `self` has, which takes no block yet, or of a
-- built-in method of `self`.
abbrev pub block_call_rule : Context → Option Callable → Bool → Bool → Sym → List Tree → Tree → Script
block_call_rule c (Some f) loop own x ts b = arguments c ts [] (self_rule c x (Some b))
block_call_rule c None true own x [] b = continued c (record { visits = Forever; stand = []; block = b })
block_call_rule c None loop own x ts b = if own then not_here c else arguments c ts [] (self_rule c x (Some b))

abbrev pub block_rule : Context → Tree → Tree → Script
block_rule c (call x list) b = See (λ m. block_call_rule c (own_method c x m) (loops c x) (only_own c x) (record { 0 = x }) (items list) b)
block_rule c (send a x list) b = with_value a (λ v. arguments c (items list) (v ∷ []) (sent_block c (record { 0 = x }) b))
block_rule c t b = not_here c

-- A part of a loop, which is evaluated again: `break` ends the loop, which has its value, and `next` begins its next turn.
abbrev pub in_loop : Script → (Ref → Script) → Answer → Script
in_loop again go_on (Gave v) = go_on v
in_loop again go_on (Raised e) = Ret (Raised e)
in_loop again go_on (Broke v) = Ret (Gave v)
in_loop again go_on (Done v) = again
in_loop again go_on (Returned v) = Ret (Returned v)
in_loop again go_on (Ends number v) = Ret (Ends number v)

-- A loop without `break` has the value nil.
abbrev pub turn_rule : Bool → Tree → Script → Ref → Script
turn_rule until body again v = if goes_on until v then Go body (in_loop again (λ w. again)) else Ret (Gave Nil)

abbrev pub loop_rule : Bool → Tree → Tree → Script → Script
loop_rule until condition body again = Go condition (in_loop again (turn_rule until body again))

-- The rule of each kind of tree.
abbrev pub rule : Context → Tree → Script
rule c nil = Ret (Gave Nil)
rule c (truth b) = Ret (Gave (truth_ref b))
rule c (int z) = Ret (Gave (Int z))
rule c (symbol x) = Ret (Gave (Symbol (record { 0 = x })))
rule c (class_tree k) = Ret (Gave (Class k))
rule c (constant (Plain x)) = plain_constant c (own_class c.program x.0) x
rule c (constant (InRactor x)) = constant_rule c (class_named (codes "Ractor::" ++ slice_index_or c.symbols x.0 [])) x
rule c (text i) = on_table c (make c.program.freezes (slice_index_or c.texts i []))
rule c (array list) = arguments c (items list) [] (finish c (DoTarget MakeArray))
-- the list in which a splat stands spreads its value
rule c (splat a) = Go a Ret
-- the key of each pair is evaluated before its value, and all of them before the hash is made; pairs without braces are a hash too
rule c (hash list) = values (pair_parts (items list)) [] (finish c (DoTarget MakeHash))
rule c (pairs list) = values (pair_parts (items list)) [] (finish c (DoTarget MakeHash))
-- the parts of a text are evaluated from left to right, and then one text is made of what each is spoken as
rule c (interpolation list) = arguments c (items list) [] (finish c (DoTarget MakeText))
rule c (local depth slot x behind) = read (record { depth = depth; slot = slot })
rule c self_tree = See (λ m. Ret (Gave (running m.calls.frames).itself))
rule c (field x) = field_rule c (record { 0 = x })
rule c (set_field x a) = with_value a (set_field_rule c (record { 0 = x }))
rule c (global x) = global_rule c (record { 0 = x })
rule c (set_global x a) = with_value a (set_global_rule c (record { 0 = x }))
rule c (set_constant x a) = with_value a (set_constant_rule c (record { 0 = x }))
rule c (bare x) = See (λ m. bare_rule c (own_method c x m) (printing c x) (raises c x) (asks_block c x) (record { 0 = x }))
rule c (call x list) = See (λ m. call_rule c (own_method c x m) (printing c x) (raises c x) (awaited c x) (record { 0 = x }) (items list))
rule c (logical_and a b) = with_value a (λ v. if is_truthy v then Go b Ret else Ret (Gave v))
rule c (logical_or a b) = with_value a (λ v. if is_truthy v then Ret (Gave v) else Go b Ret)
rule c (logical_not a) = with_value a (λ v. Ret (Gave (truth_ref (not (is_truthy v)))))
rule c (send a x list) = with_value a (λ v. arguments c (items list) (v ∷ []) (finish c (Call (callees.Name (record { 0 = x })))))
rule c (set_attribute a x b) = values (a ∷ b ∷ []) [] (finish c (Call (callees.Setter (record { 0 = x }))))
rule c (super list) = arguments c (items list) [] (finish c Super)
rule c forwarding_super = See (λ m. super_rule c (parameters_of m.calls.frames))
rule c (index a b) = values (a ∷ b ∷ []) [] (finish c (Call callees.Index))
rule c (append a b) = values (a ∷ b ∷ []) [] (finish c (Call callees.Append))
rule c (set_index a b d) = values (a ∷ b ∷ d ∷ []) [] (finish c (Call callees.SetIndex))
rule c (negate a) = with_value a (negation c)
rule c (binary op a b) = with_value a (λ v. with_value b (operation c op v))
rule c (assign depth slot x behind a) = with_value a (λ v. write (record { depth = depth; slot = slot }) v)
rule c (multiple_assign list a) = several_rule c (items list) a
rule c (operator_assign op a b) = operator_rule c op a b (place_of a)
rule c (append_assign a b) = update_rule c (updates.Combine callees.Append) a b (place_of a)
rule c (or_assign a b) = or_rule c a b
rule c (and_assign a b) = update_rule c updates.And a b (place_of a)
rule c (choose a b d) = with_value a (λ v. Go (if is_truthy v then b else d) Ret)
-- each turn of a loop evaluates the loop again
rule c (repeat until a b) = loop_rule until a b (Go (repeat until a b) Ret)
rule c (sequence list) = statements (items list)
rule c (break a) = with_value a (λ v. Ret (Broke v))
rule c (next a) = with_value a (λ v. Ret (Done v))
rule c (return a) = with_value a (return_rule c)
-- a call and its block are one step, and the values that `yield` gives are evaluated before the block is called
rule c (with_block t b) = block_rule c t b
rule c (yield list) = arguments c (items list) [] (finish c Yield)
rule c (block x parameters size body) = Go body Ret
rule c (rescue a list b) = Go a (rescue_rule c (items list) b)
rule c (ensure a b) = Go a (ensure_rule b)
rule c _ = not_here c

-- The rule of each part. A turn of an iteration is a call of its block, and then what is ahead.
abbrev pub part_rule : Context → Part → Script
part_rule c (TreePart t) = rule c t
part_rule c (TurnPart i) = Go (body_in i.block) (turned c i)
part_rule c (CallPart callee v vs) = part_called c callee v vs
part_rule c (AssignPart spot v) = put_in c spot v

-- evaluations not deeper than `depth`, each of them one step
abbrev pub eval : Context → World → ℕ → Evaluation
eval c w zero part s n = Spent s
eval c w (suc depth) part s zero = Spent s
eval c w (suc depth) part s (suc n) = run w (eval c w depth) (part_rule c part) s n

-- what a part does in a state with n steps to spend: no evaluation goes deeper than its steps
abbrev pub meaning_of : Context → World → Evaluation
meaning_of c w part s n = eval c w n part s n

-- what a tree does
abbrev pub meaning : Context → World → Tree → State → ℕ → Outcome
meaning c w t s n = meaning_of c w (TreePart t) s n

-- a `return` outside of methods ends the program
abbrev pub concluded : Outcome → Outcome
concluded (Ended a s n) = Ended (ended a) s n
concluded (Spent s) = Spent s
concluded (Waits s) = Waits s

-- what a program does: its definitions are there before the first of its statements
abbrev pub begun : Context → World → Tree → State → ℕ → Outcome
begun c w t s n = concluded (meaning c w t s n)

-- what the block of a ractor does: it is called with its arguments, as a `yield` calls a block that stands in no method
abbrev pub block_begun : Context → World → Tree → List Ref → State → ℕ → Outcome
block_begun c w b vs s n = concluded (run w (meaning_of c w) (called c (Some b) 0 vs s.memory) s n)

-- the frame of a program, which stands in no method, whose variables are unset
abbrev pub program_frame : Context → Ref → Activated
program_frame c itself = record { variables = laid 0 (length c.symbols) []; activation = record no_frame.activation { itself = itself } }

-- the memory of a program that begins, which may call so many methods in one another
abbrev pub first_memory : Context → ℕ → Ref → Table → Memory
first_memory c most itself table = record { calls = record { frames = program_frame c itself ∷ []; limit = most + 1 }; blocks = None ∷ []; table = table; rescuing = Nil }

-- A script begins with its variables unset and with nothing asked, in a table that has its `self`.
abbrev pub start_state : Context → ℕ → Ref → Table → State
start_state c most itself table = record { memory = first_memory c most itself table; asked = [] }
