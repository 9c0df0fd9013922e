-- An evaluation takes no object away.
use Rattle.std.proofs.Common.{if◌then◌else◌, ◌≡◌, refl, slice_index_or, ap, sym, subst, ◌≤◌, ◌-◌, ℕ, zero, suc, Bool, arith, List, [], ◌∷◌, ◌++◌, length, reverse, Option, Some, None, true, false}
use Rattle.std.specs.Prelude.{codes}
use Rattle.rr_base.specs.Classes.{class_id}
use Rattle.rr_base.specs.ClassNames.{class_named}
use Rattle.rr_base.specs.declared.class.BuiltInClass.{BuiltInClass}
use Rattle.rr_base.specs.declared.name.Sym.{Sym}
use Rattle.rr_base.specs.declared.name.TheConstants.ClassId.{STANDARD_ERROR}
use Rattle.rr_tree.specs.declared.node.Path.TheVariants.{Plain, Ractor as InRactor}
use Rattle.rr_base.specs.declared.name.ClassId.{ClassId}
use Rattle.rr_space.specs.Tables.{Table}
use Rattle.rr_space.specs.declared.refer.Ref.{Ref}
use Rattle.rr_space.specs.declared.refer.Ref.TheVariants.{Int, Local}
use Rattle.rr_space.specs.declared.refer.Ref.TheVariants as refs
use Rattle.rr_builtin.specs.Objects.{is_truthy}
use Rattle.rr_eval.specs.Values.{goes_on}
use Rattle.rr_tree.specs.Tree.{tree_at, Tree, nil, truth, int, text, symbol, class_named as class_tree, constant, array, hash, pairs, interpolation, send, set_attribute, super, forwarding_super, index, set_index, append, itself as self_tree, field, set_field, local, bare, call, logical_and, logical_or, logical_not, negate, binary, assign, choose, repeat, sequence, with_block, block, yield, break, next as next_tree, return, rescue, ensure, operator_assign, append_assign, or_assign, and_assign, global, set_global, set_constant, splat, multiple_assign}
use Rattle.rr_parser.specs.Grammar.Names.{is_splat}
use Rattle.std.specs.Option.{option_map}
use Rattle.rr_eval.specs.declared.call_stack.Variable.{Variable}
use Rattle.rr_tree.specs.declared.program.Program.{Program}
use Rattle.rr_eval.specs.declared.problem.Answer.{Answer}
use Rattle.rr_eval.specs.declared.problem.Answer.TheVariants.{Gave, Raised, Broke, Done, Returned, Ends}
use Rattle.rr_eval.specs.declared.call.Callee.TheVariants as callees
use Rattle.rr_eval.specs.declared.call.Target.{Target}
use Rattle.rr_eval.specs.declared.call.Target.TheVariants.{Do as DoTarget, Call, Update, Own, Super, Yield, Raise, Iterate}
use Rattle.rr_eval.specs.declared.call.Task.{Task}
use Rattle.rr_eval.specs.declared.call.Task.TheVariants.{MakeArray, MakeText, MakeHash}
use Rattle.rr_eval.specs.declared.problem.Response.{Response}
use Rattle.rr_eval.specs.declared.problem.Problem.{Problem}
use Rattle.rr_eval.specs.declared.problem.Problem.TheVariants.{BuiltIn, MissingName, MissingConstant, NotHere}
use Rattle.rr_builtin.specs.declared.problem.Problem.TheVariants.{WrongType}
use Rattle.rr_eval.specs.declared.frame.Frame.{Frame}
use Rattle.rr_eval.specs.declared.frame.Frame.TheVariants.{Not, Negation, And, Or, Left, Right, Store, SetField, Branch, Condition, Body, Break, Next, Return, Back, Past, Rest, Argument, Key, Value, Element, Read, Combine, Put, Rescue, Class, Handling, Ensure, Kept, Round, Turned, Paired, Initialize, Receiver, Item, Aim, Several, Assigned, Asking as AskingFrame, Asked as AskedFrame}
use Rattle.rr_eval.specs.Script.{Memory, State, Script, Ret, Part, TreePart, TurnPart, CallPart, AssignPart, Evaluate, Go, See, Do, Ask, Asked, Reply, World, Outcome, Ended, Spent, Waits, Evaluation, run, after, taken, objects_of}
use Rattle.rr_eval.specs.Requests.{Course, Adds, AddsTo, asking}
use Rattle.rr_base.specs.declared.fault.Fault.{Fault}
use Rattle.rr_eval.specs.View.{View}
use Rattle.rr_eval.specs.Acts.{Passes}
use Rattle.rr_eval.specs.Turns.{context_of, code_of, state_of, after_script, asking_then}
use Rattle.rr_builtin.specs.Acts.{with_text}
use Rattle.rr_eval.specs.Rules.{Context, items, throw, raise, settled, turn_rule, on_table, statements, values, pair_parts, finish, printing, raises, awaited, bare_rule, constant_rule, call_rule, block_call_rule, block_rule, asks_block, own_method, own_class, plain_constant, name_rule, running, variable_of, rule, part_rule, loops, only_own, not_here, arguments, self_rule, eval, concluded, begun}
use Rattle.rr_eval.specs.Methods.{Callable}
use Rattle.rr_eval.specs.Above.{parameters_of}
use Rattle.rr_eval.specs.Callees.{has_built_in, method_of}
use Rattle.rr_eval.specs.Dispatch.{initializer, passed_on}
use Rattle.rr_space.specs.Kinds.{kind_at}
use Rattle.rr_builtin.specs.Fields.{field_at}
use Rattle.rr_eval.specs.Constants.{set_response, unless_set, asked_constant, set_constant_rule}
use Rattle.rr_eval.specs.Fields.{field_response, set_field_rule}
use Rattle.rr_eval.specs.Updating.{place_of, put}
use Rattle.rr_eval.specs.declared.updating.Update.TheVariants as updates
use Rattle.rr_eval.specs.Globals.{globals}
use Rattle.rr_eval.specs.Owners.{is_main}
use Rattle.rr_eval.proofs.Mains.{global_keeps, set_global_keeps}
use Rattle.rr_eval.specs.declared.iterating.Visits.TheVariants.{Forever}
use Rattle.rr_eval.specs.Iterating.{kept}
use Rattle.rr_eval.specs.Rescuing.{class_parts, taken_by, with_caught, fitted, tried_classes, tried_clause, tried, else_rule, rescue_rule, ensure_rule, target_part}
use Rattle.rr_tree.specs.Ancestors.{descends}
use Rattle.rr_space.specs.Kinds.{class_at}
use Rattle.rr_tree.specs.Nodes.{trees_before}
use Rattle.rr_eval.specs.Messages.{message, exception_class}
use Rattle.rr_eval.specs.Exceptions.{with_exception}
use Rattle.rr_eval.specs.Frames.{Code, evaluates, runs_in, iterated, option_trees, taker, behind_class, resumed, stand_of, below_of, unwind}
use Rattle.rr_eval.specs.Several.{all_parts}
use Rattle.rr_eval.proofs.Keeping.{count, make_keeps, Keeps, on_value_keeps, loop_keeps, raise_keeps, throw_keeps, settled_keeps, if_keeps, back_keeps, past_keeps, yield_keeps, continued_keeps, continued_with_keeps, turned_keeps, array_turn_keeps, return_keeps}
use Rattle.rr_eval.specs.declared.call_stack.CallValue.TheVariants.{Method}
use Rattle.rr_eval.proofs.Speeches.{task_keeps, joining_call_keeps, asking_on_keeps, asked_on_keeps}
use Rattle.rr_eval.proofs.Dispatching.{method_keeps, initialized_keeps, dispatched_keeps, self_keeps, sent_block_keeps, operates, negates, super_keeps}
use Rattle.rr_eval.proofs.CallParts.{part_called_keeps}
use Rattle.rr_eval.proofs.RaisesNew.{raised_keeps}
use Rattle.rr_eval.proofs.Settable.{or_keeps}
use Rattle.rr_eval.proofs.Updates.{put_keeps, updated_keeps, accessed_keeps, operator_keeps, update_keeps}
use Rattle.rr_eval.proofs.Splatted.{spread_keeps, arguments_keep}
use Rattle.rr_eval.proofs.Targets.{put_in_keeps, each_keeps, several_keeps, aimed_keeps}

finish_keeps : (c : Context) (target : Target) (vs : List Ref) → Keeps (finish c target vs)
finish_keeps c (DoTarget task) vs = task_keeps c task vs
finish_keeps c (Call callee) [] = tt
finish_keeps c (Call callee) (v ∷ vs) = joining_call_keeps c callee v vs
finish_keeps c (Update getter setter how b) vs = accessed_keeps c getter setter how (tree_at c.program.nodes.items b) vs
finish_keeps c (Own x b) vs = self_keeps c x (option_map (tree_at c.program.nodes.items) b) vs
finish_keeps c Super vs = super_keeps c vs
finish_keeps c Yield vs = λ m. yield_keeps c (running m.calls.frames).given vs m
finish_keeps c Raise vs = raised_keeps c vs
finish_keeps c (Iterate x b) vs = sent_block_keeps c x (tree_at c.program.nodes.items b) vs

statements_keep : (ts : List Tree) → Keeps (statements ts)
statements_keep [] = tt
statements_keep (t ∷ []) = λ a. tt
statements_keep (t ∷ u ∷ ts) = on_value_keeps (λ v. statements (u ∷ ts)) (λ v. statements_keep (u ∷ ts))

values_keep : (c : Context) (target : Target) (ts : List Tree) (stand : List Ref) → Keeps (values ts stand (finish c target))
values_keep c target [] stand = finish_keeps c target stand
values_keep c target (t ∷ ts) stand = on_value_keeps (λ v. values ts (stand ++ v ∷ []) (finish c target)) (λ v. values_keep c target ts (stand ++ v ∷ []))

turn_keeps : (until : Bool) (body : Tree) (again : Script) → Keeps again → (v : Ref) → Keeps (turn_rule until body again v)
turn_keeps until body again kept v = if_keeps (goes_on until v) _ (Ret (Gave refs.Nil)) (loop_keeps again (λ w. again) kept (λ w. kept)) tt

name_keeps : (c : Context) (x : Sym) → Keeps (name_rule c x)
name_keeps c x = λ m. if_keeps (has_built_in (kind_at m.table (running m.calls.frames).itself) (method_of c (callees.Name x))) _ _ (dispatched_keeps c None (callees.Name x) None (running m.calls.frames).itself []) (throw_keeps c (MissingName x))

bare_keeps : (c : Context) (f : Option Callable) (task : Option Task) (raises asks : Bool) (x : Sym) → Keeps (bare_rule c f task raises asks x)
bare_keeps c (Some f) task raises asks x = λ m. method_keeps c f _ []
bare_keeps c None (Some task) raises asks x = finish_keeps c (DoTarget task) []
bare_keeps c None None true asks x = finish_keeps c Raise []
bare_keeps c None None false true x = λ m. tt
bare_keeps c None None false false x = name_keeps c x

constant_keeps : (c : Context) (class : Option BuiltInClass) (x : Sym) → Keeps (constant_rule c class x)
constant_keeps c (Some k) x = tt
constant_keeps c None x = throw_keeps c (MissingConstant x)

unless_keeps : (c : Context) (r : Option Response) (otherwise : Script) → Keeps otherwise → Keeps (unless_set c r otherwise)
unless_keeps c (Some r) otherwise kept = settled_keeps c r
unless_keeps c None otherwise kept = kept

asked_keeps : (c : Context) (class : Option BuiltInClass) (x : Sym) (t : Table) → Keeps (asked_constant c class x t)
asked_keeps c (Some k) x t = tt
asked_keeps c None x t = settled_keeps c

plain_keeps : (c : Context) (class : Option ClassId) (x : Sym) → Keeps (plain_constant c class x)
plain_keeps c (Some k) x = tt
plain_keeps c None x = λ m. if_keeps (is_main m.table) _ _ (unless_keeps c (set_response m.table (field_at m.table globals x.0)) _ (constant_keeps c (class_named (slice_index_or c.symbols x.0 [])) x)) (asked_keeps c (class_named (slice_index_or c.symbols x.0 [])) x m.table)

call_keeps : (c : Context) (m : Option Callable) (task : Option Task) (raises later : Bool) (x : Sym) (ts : List Tree) → Keeps (call_rule c m task raises later x ts)
call_keeps c (Some m) task raises later x ts = arguments_keep c _ (finish_keeps c (Own x None)) ts []
call_keeps c None (Some task) raises later x ts = arguments_keep c _ (finish_keeps c (DoTarget task)) ts []
call_keeps c None None true later x ts = arguments_keep c _ (finish_keeps c Raise) ts []
call_keeps c None None false true x ts = throw_keeps c NotHere
call_keeps c None None false false x ts = arguments_keep c _ (finish_keeps c (Own x None)) ts []

own_call_keeps : (c : Context) (own : Bool) (x : Sym) (ts : List Tree) (b : Tree) → Keeps (if own then not_here c else arguments c ts [] (self_rule c x (Some b)))
own_call_keeps c own x ts b = if_keeps own (not_here c) (arguments c ts [] (self_rule c x (Some b))) (throw_keeps c NotHere) (arguments_keep c _ (self_keeps c x (Some b)) ts [])

block_call_keeps : (c : Context) (m : Option Callable) (loop own : Bool) (x : Sym) (ts : List Tree) (b : Tree) → Keeps (block_call_rule c m loop own x ts b)
block_call_keeps c (Some m) loop own x ts b = arguments_keep c _ (self_keeps c x (Some b)) ts []
block_call_keeps c None true own x [] b = continued_keeps c (record { visits = Forever; stand = []; block = b })
block_call_keeps c None true own x (t ∷ ts) b = own_call_keeps c own x (t ∷ ts) b
block_call_keeps c None false own x ts b = own_call_keeps c own x ts b

block_keeps : (c : Context) (t b : Tree) → Keeps (block_rule c t b)
block_keeps c (call x list) b = λ m. block_call_keeps c (own_method c x m) (loops c x) (only_own c x) (record { 0 = x }) (items list) b
block_keeps c (send a x list) b = on_value_keeps _ (λ v. arguments_keep c _ (sent_block_keeps c (record { 0 = x }) b) (items list) (v ∷ []))
block_keeps c _ b = throw_keeps c NotHere

caught_keeps : (slot : Option Variable) (e : Ref) (m : Memory) → count m.table ≤ count (with_caught slot e m).table
caught_keeps None e m = omega arith
caught_keeps (Some x) e m = omega arith

taken_keep : (t : Tree) (e : Ref) → Keeps (taken_by t e)
taken_keep t e = λ m. (λ k. caught_keeps (variable_of (target_part t)) e k, λ a. (λ k. omega arith, tt))

fitted_keeps : (c : Context) (e v : Ref) (take other : Script) → Keeps take → Keeps other → Keeps (fitted c e v take other)
fitted_keeps c e (refs.Class k) take other kept rest = λ m. if_keeps (descends c.program (class_at m.table e).0 k.0) take other kept rest
fitted_keeps c e refs.Nil take other kept rest = λ m. throw_keeps c (BuiltIn (WrongType (class_at m.table refs.Nil)))
fitted_keeps c e refs.False take other kept rest = λ m. throw_keeps c (BuiltIn (WrongType (class_at m.table refs.False)))
fitted_keeps c e refs.True take other kept rest = λ m. throw_keeps c (BuiltIn (WrongType (class_at m.table refs.True)))
fitted_keeps c e (Int z) take other kept rest = λ m. throw_keeps c (BuiltIn (WrongType (class_at m.table (Int z))))
fitted_keeps c e (refs.Symbol s) take other kept rest = λ m. throw_keeps c (BuiltIn (WrongType (class_at m.table (refs.Symbol s))))
fitted_keeps c e (refs.Ractor r) take other kept rest = λ m. throw_keeps c (BuiltIn (WrongType (class_at m.table (refs.Ractor r))))
fitted_keeps c e (Local n) take other kept rest = λ m. throw_keeps c (BuiltIn (WrongType (class_at m.table (Local n))))
fitted_keeps c e (refs.Shared p o) take other kept rest = λ m. throw_keeps c (BuiltIn (WrongType (class_at m.table (refs.Shared p o))))

classes_keep : (c : Context) (e : Ref) (ts : List Tree) (take other : Script) → Keeps take → Keeps other → Keeps (tried_classes c e ts take other)
classes_keep c e [] take other kept rest = rest
classes_keep c e (t ∷ ts) take other kept rest = on_value_keeps _ (λ v. fitted_keeps c e v take (tried_classes c e ts take other) kept (classes_keep c e ts take other kept rest))

clause_keeps : (c : Context) (e : Ref) (ts : List Tree) (take other : Script) → Keeps take → Keeps other → Keeps (tried_clause c e ts take other)
clause_keeps c e [] take other kept rest = fitted_keeps c e (refs.Class STANDARD_ERROR) take other kept rest
clause_keeps c e (t ∷ ts) take other kept rest = classes_keep c e (t ∷ ts) take other kept rest

tried_keeps : (c : Context) (e : Ref) (ts : List Tree) → Keeps (tried c e ts)
tried_keeps c e [] = tt
tried_keeps c e (t ∷ ts) = clause_keeps c e (class_parts t) (taken_by t e) (tried c e ts) (taken_keep t e) (tried_keeps c e ts)

else_keeps : (t : Tree) (v : Ref) → Keeps (else_rule t v)
else_keeps nil v = tt
else_keeps _ v = λ a. tt

rescue_keeps : (c : Context) (clauses : List Tree) (otherwise : Tree) (a : Answer) → Keeps (rescue_rule c clauses otherwise a)
rescue_keeps c clauses otherwise (Gave v) = else_keeps otherwise v
rescue_keeps c clauses otherwise (Raised e) = tried_keeps c e clauses
rescue_keeps c clauses otherwise (Broke v) = tt
rescue_keeps c clauses otherwise (Done v) = tt
rescue_keeps c clauses otherwise (Returned v) = tt
rescue_keeps c clauses otherwise (Ends number v) = tt

ensure_keeps : (t : Tree) (a : Answer) → Keeps (ensure_rule t a)
ensure_keeps t a = on_value_keeps _ (λ v. tt)

set_field_keeps : (c : Context) (x : Sym) (v : Ref) → Keeps (set_field_rule c x v)
set_field_keeps c x v = λ m. settled_keeps c

set_constant_keeps : (c : Context) (x : Sym) (v : Ref) → Keeps (set_constant_rule c x v)
set_constant_keeps c x v = λ m. settled_keeps c

rule_keeps : (c : Context) (tree : Tree) → Keeps (rule c tree)
rule_keeps c nil = tt
rule_keeps c (truth b) = tt
rule_keeps c (int z) = tt
rule_keeps c (symbol x) = tt
rule_keeps c (class_tree k) = tt
rule_keeps c (send a x list) = on_value_keeps _ (λ v. arguments_keep c _ (finish_keeps c (Call (callees.Name (record { 0 = x })))) (items list) (v ∷ []))
rule_keeps c (set_attribute a x b) = values_keep c (Call (callees.Setter (record { 0 = x }))) (a ∷ b ∷ []) []
rule_keeps c (super list) = arguments_keep c _ (finish_keeps c Super) (items list) []
rule_keeps c forwarding_super = λ m. super_keeps c (parameters_of m.calls.frames)
rule_keeps c (index a b) = values_keep c (Call callees.Index) (a ∷ b ∷ []) []
rule_keeps c (append a b) = values_keep c (Call callees.Append) (a ∷ b ∷ []) []
rule_keeps c (set_index a b d) = values_keep c (Call callees.SetIndex) (a ∷ b ∷ d ∷ []) []
rule_keeps c (array list) = arguments_keep c _ (finish_keeps c (DoTarget MakeArray)) (items list) []
rule_keeps c (splat a) = λ a'. tt
rule_keeps c (hash list) = values_keep c (DoTarget MakeHash) (pair_parts (items list)) []
rule_keeps c (pairs list) = values_keep c (DoTarget MakeHash) (pair_parts (items list)) []
rule_keeps c (interpolation list) = arguments_keep c _ (finish_keeps c (DoTarget MakeText)) (items list) []
rule_keeps c (constant (Plain x)) = plain_keeps c (own_class c.program x.0) x
rule_keeps c (constant (InRactor x)) = constant_keeps c (class_named (codes "Ractor::" ++ slice_index_or c.symbols x.0 [])) x
rule_keeps c (text i) = λ m. (λ k. make_keeps c.program.freezes _ k.table, tt)
rule_keeps c (local depth slot x behind) = λ m. tt
rule_keeps c self_tree = λ m. tt
rule_keeps c (field x) = λ m. settled_keeps c (field_response m.table (field_at m.table (running m.calls.frames).itself x))
rule_keeps c (set_field x a) = on_value_keeps _ (λ v. set_field_keeps c (record { 0 = x }) v)
rule_keeps c (global x) = global_keeps c (record { 0 = x })
rule_keeps c (set_global x a) = on_value_keeps _ (λ v. set_global_keeps c (record { 0 = x }) v)
rule_keeps c (set_constant x a) = on_value_keeps _ (λ v. set_constant_keeps c (record { 0 = x }) v)
rule_keeps c (bare x) = λ m. bare_keeps c (own_method c x m) (printing c x) (raises c x) (asks_block c x) (record { 0 = x })
rule_keeps c (call x list) = λ m. call_keeps c (own_method c x m) (printing c x) (raises c x) (awaited c x) (record { 0 = x }) (items list)
rule_keeps c (logical_and a b) = on_value_keeps _ (λ v. if_keeps (is_truthy v) (Go b Ret) (Ret (Gave v)) (λ a'. tt) tt)
rule_keeps c (logical_or a b) = on_value_keeps _ (λ v. if_keeps (is_truthy v) (Ret (Gave v)) (Go b Ret) tt (λ a'. tt))
rule_keeps c (logical_not a) = on_value_keeps _ (λ v. tt)
rule_keeps c (negate a) = on_value_keeps _ (λ v. negates c v)
rule_keeps c (binary op a b) = on_value_keeps _ (λ v. on_value_keeps _ (λ w. operates c op v w))
rule_keeps c (assign depth slot x behind a) = on_value_keeps _ (λ v. (λ m. omega arith, tt))
rule_keeps c (multiple_assign list a) = aimed_keeps c (items list) a (all_parts (items list)) []
rule_keeps c (operator_assign op a b) = operator_keeps c op a b (place_of a)
rule_keeps c (append_assign a b) = update_keeps c (updates.Combine callees.Append) a b (place_of a)
rule_keeps c (or_assign a b) = or_keeps c a b
rule_keeps c (and_assign a b) = update_keeps c updates.And a b (place_of a)
rule_keeps c (choose a b d) = on_value_keeps _ (λ v. λ a'. tt)
rule_keeps c (repeat until a b) = loop_keeps (Go (repeat until a b) Ret) _ (λ x. tt) (turn_keeps until b (Go (repeat until a b) Ret) (λ x. tt))
rule_keeps c (sequence list) = statements_keep (items list)
rule_keeps c (break a) = on_value_keeps _ (λ v. tt)
rule_keeps c (next_tree a) = on_value_keeps _ (λ v. tt)
rule_keeps c (return a) = on_value_keeps _ (λ v. return_keeps c v)
rule_keeps c (with_block t b) = block_keeps c t b
rule_keeps c (yield list) = arguments_keep c _ (finish_keeps c Yield) (items list) []
rule_keeps c (block x parameters size body) = λ a. tt
rule_keeps c (rescue a list b) = rescue_keeps c (items list) b
rule_keeps c (ensure a b) = ensure_keeps b
rule_keeps c _ = throw_keeps c NotHere

part_keeps : (c : Context) (part : Part) → Keeps (part_rule c part)
part_keeps c (TreePart t) = rule_keeps c t
part_keeps c (TurnPart i) = λ a. turned_keeps c i a
part_keeps c (CallPart callee v vs) = part_called_keeps c callee v vs
part_keeps c (AssignPart spot v) = put_in_keeps c spot v

resumed_keeps : (c : Code) (f : Frame) (stand : List Ref) (a : Answer) → Keeps (resumed c f stand a)
resumed_keeps c Not stand = on_value_keeps _ (λ v. tt)
resumed_keeps c (And b) stand = on_value_keeps _ (λ v. if_keeps (is_truthy v) (Go (tree_at c.nodes b) Ret) (Ret (Gave v)) (λ a. tt) tt)
resumed_keeps c (Or b) stand = on_value_keeps _ (λ v. if_keeps (is_truthy v) (Ret (Gave v)) (Go (tree_at c.nodes b) Ret) tt (λ a. tt))
resumed_keeps c Negation stand = on_value_keeps _ (λ v. negates c.context v)
resumed_keeps c (Left op b) stand = on_value_keeps _ (λ v. on_value_keeps _ (λ w. operates c.context op v w))
resumed_keeps c (Right op v) stand = on_value_keeps _ (λ w. operates c.context op v w)
resumed_keeps c (Store x) stand = on_value_keeps _ (λ v. (λ m. omega arith, tt))
resumed_keeps c (SetField x) stand = on_value_keeps _ (λ v. set_field_keeps c.context x v)
resumed_keeps c (Branch b d) stand = on_value_keeps _ (λ v. λ a. tt)
resumed_keeps c (Condition until body loop) stand = loop_keeps (Go (tree_at c.nodes loop) Ret) _ (λ x. tt) (turn_keeps until (tree_at c.nodes body) (Go (tree_at c.nodes loop) Ret) (λ x. tt))
resumed_keeps c (Body loop) stand = loop_keeps (Go (tree_at c.nodes loop) Ret) _ (λ x. tt) (λ w. λ x. tt)
resumed_keeps c Break stand = on_value_keeps _ (λ v. tt)
resumed_keeps c Next stand = on_value_keeps _ (λ v. tt)
resumed_keeps c Return stand = on_value_keeps _ (λ v. return_keeps c.context v)
resumed_keeps c (Back by) stand = back_keeps by
resumed_keeps c Past stand = past_keeps c.context
resumed_keeps c (Rest end more) stand = on_value_keeps _ (λ v. statements_keep (trees_before c.nodes end more))
resumed_keeps c (Argument target end more base) stand = on_value_keeps _ (λ v. values_keep c.context target (trees_before c.nodes end more) (stand ++ v ∷ []))
resumed_keeps c (Receiver target end more base) stand = on_value_keeps _ (λ v. arguments_keep c.context _ (finish_keeps c.context target) (trees_before c.nodes end more) (stand ++ v ∷ []))
resumed_keeps c (Item target end more base) stand = on_value_keeps _ (λ v. spread_keeps c.context (is_splat (tree_at c.nodes (end - suc more))) v _ (λ ws. arguments_keep c.context _ (finish_keeps c.context target) (trees_before c.nodes end more) (stand ++ ws)))
resumed_keeps c (Aim x) stand = on_value_keeps _ (λ v. aimed_keeps c.context (trees_before c.nodes x.end x.count) (tree_at c.nodes x.value) (option_trees c.nodes x.index ++ all_parts (trees_before c.nodes x.end x.left)) (stand ++ v ∷ []))
resumed_keeps c (Several end more base) stand = on_value_keeps _ (λ v. several_keeps c.context (trees_before c.nodes end more) stand v)
resumed_keeps c (Assigned x) stand = on_value_keeps _ (λ w. each_keeps c.context (trees_before c.nodes x.end x.left) _ _ _)
resumed_keeps c (Key next end more base) stand = on_value_keeps _ (λ v. values_keep c.context (DoTarget MakeHash) (tree_at c.nodes next ∷ pair_parts (trees_before c.nodes end more)) (stand ++ v ∷ []))
resumed_keeps c (Value end more base) stand = on_value_keeps _ (λ v. values_keep c.context (DoTarget MakeHash) (pair_parts (trees_before c.nodes end more)) (stand ++ v ∷ []))
resumed_keeps c (AskingFrame a) stand = asking_on_keeps c.context a stand Method
resumed_keeps c (AskedFrame a) stand = asked_on_keeps c.context a stand
resumed_keeps c (Element b end) stand = on_value_keeps _ (λ v. values_keep c.context (Call callees.SetIndex) (tree_at c.nodes b ∷ trees_before c.nodes end 1) (v ∷ []))
resumed_keeps c (Read u) stand = on_value_keeps _ (λ v. updated_keeps u.how (tree_at c.nodes u.value) (put c.context u.place stand) (put_keeps c.context u.place stand) v)
resumed_keeps c (Combine x) stand = on_value_keeps _ (λ w. on_value_keeps (put c.context x.place stand) (put_keeps c.context x.place stand))
resumed_keeps c (Put place base) stand = on_value_keeps _ (put_keeps c.context place stand)
resumed_keeps c (Rescue end more otherwise) stand = rescue_keeps c.context (trees_before c.nodes end more) (tree_at c.nodes otherwise)
resumed_keeps c (Class r) stand =
    let other = tried c.context r.exception (trees_before c.nodes r.end r.clauses) in
    let kept = taken_keep (tree_at c.nodes (r.end - suc r.clauses)) r.exception in
    on_value_keeps _ (λ v. fitted_keeps c.context r.exception v (taker c r) (behind_class c r) kept (classes_keep c.context r.exception (trees_before c.nodes r.last r.classes) (taker c r) other kept (tried_keeps c.context r.exception (trees_before c.nodes r.end r.clauses))))
resumed_keeps c (Handling old) stand = λ a. (λ m. omega arith, tt)
resumed_keeps c (Ensure part) stand = ensure_keeps (tree_at c.nodes part)
resumed_keeps c (Kept a) stand = on_value_keeps _ (λ v. tt)
resumed_keeps c (Round i) stand = turned_keeps c.context (iterated c i stand)
resumed_keeps c (Turned i) stand = on_value_keeps _ (λ v. continued_with_keeps c.context (iterated c i stand) v)
resumed_keeps c (Paired i) stand = on_value_keeps _ (λ v. array_turn_keeps c.context (iterated c i stand) v)
resumed_keeps c (Initialize x) stand = on_value_keeps _ (λ v. initialized_keeps c.context x.raises (initializer c.context x.class) (option_map (tree_at c.nodes) x.block) v (passed_on x.passing stand))

-- an evaluation that takes no object away
abbrev KeepsAll : Evaluation → Type 0
KeepsAll go = (t : Part) (s : State) (n : ℕ) → count s.memory.table ≤ objects_of (go t s n)

after_keeps : (k : ℕ) (o : Outcome) (next : Answer → State → ℕ → Outcome) → k ≤ objects_of o → ((a : Answer) (s : State) (n : ℕ) → count s.memory.table ≤ objects_of (next a s n)) → k ≤ objects_of (after o next)
after_keeps k (Ended a s n) next le h =
    let more = h a s n in
    omega arith
after_keeps k (Spent s) next le h = le
after_keeps k (Waits s) next le h = le

taken_keeps : (r : Option Reply) (s : State) (next : Response → State → Outcome) → AddsTo s.memory.table r
    → ((a : Response) (u : State) → count u.memory.table ≤ objects_of (next a u)) → count s.memory.table ≤ objects_of (taken r s next)
taken_keeps None s next adds h = omega arith
taken_keeps (Some r) s next adds h =
    let more = h r.response (record s { memory = record s.memory { table = r.table } }) in
    omega arith

run_keeps : (w : World) → Adds w → (go : Evaluation) → KeepsAll go → (p : Script) → Keeps p → (s : State) (n : ℕ) → count s.memory.table ≤ objects_of (run w go p s n)
run_keeps w adds go h (Ret a) keeps s n = omega arith
run_keeps w adds go h (Evaluate t next) keeps s n = after_keeps (count s.memory.table) (go t s n) (λ a. run w go (next a)) (h t s n) (λ a s' m. run_keeps w adds go h (next a) (keeps a) s' m)
run_keeps w adds go h (See look) keeps s n = run_keeps w adds go h (look s.memory) (keeps s.memory) s n
run_keeps w adds go h (Do act next) keeps s n =
    let first = keeps.0 s.memory in
    let more = run_keeps w adds go h next keeps.1 (record s { memory = act s.memory }) n in
    omega arith
run_keeps w adds go h (Ask q next) keeps s n =
    taken_keeps (w s.asked q s.memory.table) (record s { asked = s.asked ++ q ∷ [] }) (λ r u. run w go (next r) u n) (adds s.asked q s.memory.table) (λ r u. run_keeps w adds go h (next r) (keeps r) u n)

eval_keeps : (c : Context) (w : World) → Adds w → (depth : ℕ) → KeepsAll (eval c w depth)
eval_keeps c w adds zero t s n = omega arith
eval_keeps c w adds (suc depth) t s zero = omega arith
eval_keeps c w adds (suc depth) t s (suc n) = run_keeps w adds (eval c w depth) (eval_keeps c w adds depth) (part_rule c t) (part_keeps c t) s n

meaning_keeps : (c : Code) → Adds c.world → KeepsAll (evaluates c)
meaning_keeps c adds t s n = eval_keeps c.context c.world adds n t s n

-- what the frames still do takes no object away
pub unwind_keeps : (k : ℕ) (c : Code) → Adds c.world → (fs : List Frame) (held : List Ref) (o : Outcome) → k ≤ objects_of o → k ≤ objects_of (unwind c fs held o)
unwind_keeps k c adds [] held (Ended a s n) le = le
unwind_keeps k c adds [] held (Spent s) le = le
unwind_keeps k c adds [] held (Waits s) le = le
unwind_keeps k c adds (f ∷ fs) held o le =
    let next = λ (a : Answer). runs_in c (resumed c f (stand_of f held) a) in
    unwind_keeps k c adds fs (below_of f held) (after o next) (after_keeps k o next le (λ a s n. run_keeps c.world adds (evaluates c) (meaning_keeps c adds) (resumed c f (stand_of f held) a) (resumed_keeps c f (stand_of f held) a) s n))

-- what a script comes to, and the frames after it, has no fewer objects than there are
pub script_keeps : (p : Program) (m : View) (t : Table) (script : Script) (h : Course) (n : ℕ) → Adds h.world → Keeps script → count t ≤ objects_of (after_script p m t script h n)
script_keeps p m t script h n adds keeps =
    let c = code_of p h.world in
    unwind_keeps (count t) c adds (reverse m.frames) m.held (runs_in c script (state_of p m t h) n) (run_keeps h.world adds (evaluates c) (meaning_keeps c adds) script keeps (state_of p m t h) n)

-- an act that would pass the limit of slots, and what comes after it
pub act_passes : (p : Program) (m : View) (t : Table) (act : Table → Response × Table) (f : Fault) (h : Course) (n : ℕ) → Adds h.world → Passes f t.limit (length (act t).1.slots) → Passes f t.limit (objects_of (after_script p m t (on_table (context_of p) act) h n))
act_passes p m t act f h n adds passes = λ is.
    let more = passes is in
    let kept = script_keeps p m (act t).1 (settled (context_of p) (act t).0) h n adds (settled_keeps (context_of p) (act t).0) in
    omega arith

-- the same of the message of an exception, and of the exception
pub throw_passes : (p : Program) (m : View) (t : Table) (e : Problem) (f : Fault) (h : Course) (n : ℕ) → Adds h.world → Passes f t.limit (length (with_text (message (context_of p) e) t).slots) → Passes f t.limit (objects_of (after_script p m t (throw (context_of p) e) h n))
throw_passes p m t e f h n adds passes = λ is.
    let more = passes is in
    let made = with_text (message (context_of p) e) t in
    let kept = script_keeps p m made (raise (class_id (exception_class e)) (Local (length t.slots))) h n adds (raise_keeps (class_id (exception_class e)) (Local (length t.slots))) in
    omega arith

pub raise_passes : (p : Program) (m : View) (t : Table) (class : ClassId) (message : Ref) (f : Fault) (h : Course) (n : ℕ) → Adds h.world → Passes f t.limit (length (with_exception class message m.rescuing t).slots) → Passes f t.limit (objects_of (after_script p m t (raise class message) h n))
raise_passes p m t class message f h n adds passes = λ is.
    let more = passes is in
    let made = with_exception class message m.rescuing t in
    let kept = script_keeps p m made (Ret (Raised (Local (length t.slots)))) h n adds tt in
    omega arith

-- the objects that a reply leaves
pub asking_keeps : (p : Program) (m : View) (t : Table) (q : Asked) (h : Course) (r : Reply) → Adds h.world → h.world h.asked q t ≡ Some r → count r.table ≤ objects_of (asking_then p m t q h)
asking_keeps p m t q h r adds e =
    let c = code_of p h.world in
    let next = λ (x : Response) (v : State). runs_in c (settled (context_of p) x) v m.left in
    let same : asking_then p m t q h ≡ after_script p m r.table (settled (context_of p) r.response) (asking q h) m.left = ap (λ o. unwind c (reverse m.frames) m.held (taken o (state_of p m t (asking q h)) next)) e in
    let kept = script_keeps p m r.table (settled (context_of p) r.response) (asking q h) m.left adds (settled_keeps (context_of p) r.response) in
    subst (λ o. count r.table ≤ objects_of o) (sym same) kept

-- a program takes no object away
concluded_same : (o : Outcome) → objects_of (concluded o) ≡ objects_of o
concluded_same (Ended a s n) = refl
concluded_same (Spent s) = refl
concluded_same (Waits s) = refl

pub begun_keeps : (c : Code) → Adds c.world → (tree : Tree) (s : State) (n : ℕ) → count s.memory.table ≤ objects_of (begun c.context c.world tree s n)
begun_keeps c adds tree s n =
    let kept = meaning_keeps c adds (TreePart tree) s n in
    let same = concluded_same (evaluates c (TreePart tree) s n) in
    omega arith
