-- Which method a call runs. Methods are looked for class by class, from the class of the receiver upwards, and in each class the
-- program's method comes before the built-in one. A program opens no built-in class.
use Rattle.std.specs.Prelude.{ℕ, nat_eq, Bool, false, ◌&&◌, List, [], ◌∷◌, length, drop, codes, Option, Some, None, if◌then◌else◌, slice_index_or, ◌||◌, is_some, true}
use Rattle.std.specs.Option.{option_map}
use Rattle.rr_base.specs.declared.name.ClassId.{ClassId}
use Rattle.rr_base.specs.declared.name.Sym.{Sym}
use Rattle.rr_base.specs.declared.name.TheConstants.ClassId.{OBJECT}
use Rattle.rr_tree.specs.Tree.{Tree}
use Rattle.rr_tree.specs.Methods.{symbol_named}
use Rattle.rr_tree.specs.declared.method_table.MethodName.{MethodName}
use Rattle.rr_tree.specs.declared.method_table.MethodName.TheVariants.{Plain, Setter}
use Rattle.rr_tree.specs.declared.node.BinaryOperator.{BinaryOperator}
use Rattle.rr_tree.specs.declared.node.BinaryOperator.TheVariants.{NotEqual}
use Rattle.rr_space.specs.Kinds.{class_at, kind_at}
use Rattle.rr_space.specs.Tables.{Table}
use Rattle.rr_space.specs.declared.kind.Kind.{Kind}
use Rattle.rr_space.specs.declared.refer.Ref.{Ref}
use Rattle.rr_space.specs.declared.refer.Ref.TheVariants.{Nil, Int, Class, Local}
use Rattle.rr_builtin.specs.Fields.{field_at}
use Rattle.rr_builtin.specs.Iterations.{iteration_named, iterates}
use Rattle.rr_builtin.specs.Kinds.{has, stands_below_object}
use Rattle.rr_builtin.specs.News.{may_make, new_plain, is_exception_class}
use Rattle.rr_builtin.specs.Acts.{with_object}
use Rattle.rr_builtin.specs.declared.iterations.Iteration.{Iteration}
use Rattle.rr_builtin.specs.declared.method.BuiltInMethod.{BuiltInMethod}
use Rattle.rr_builtin.specs.declared.method.BuiltInMethod.TheVariants.{New}
use Rattle.rr_builtin.specs.declared.problem.Problem.TheVariants.{Count}
use Rattle.rr_eval.specs.declared.call.Callee.{Callee}
use Rattle.rr_eval.specs.declared.call.Callee.TheVariants as callees
use Rattle.rr_eval.specs.declared.call.Passing.{Passing}
use Rattle.rr_eval.specs.declared.call.Passing.TheVariants.{All, BehindReceiver}
use Rattle.rr_eval.specs.declared.call.Task.TheVariants.{SetField}
use Rattle.rr_eval.specs.declared.call_stack.CallValue.{CallValue}
use Rattle.rr_eval.specs.declared.call_stack.CallValue.TheVariants as value
use Rattle.rr_eval.specs.declared.call_stack.Handed.{Handed}
use Rattle.rr_eval.specs.declared.call_stack.Handed.TheVariants as handed
use Rattle.rr_eval.specs.declared.problem.Answer.TheVariants.{Gave}
use Rattle.rr_eval.specs.declared.problem.Problem.TheVariants.{BuiltIn}
use Rattle.rr_eval.specs.declared.problem.Response.{Response}
use Rattle.rr_eval.specs.declared.problem.Response.TheVariants.{Gives, Throws, Fails}
use Rattle.rr_eval.specs.Basics.{throw, settled, send_to, not_here}
use Rattle.rr_eval.specs.Blocks.{Way, entered, value_by, valued}
use Rattle.rr_eval.specs.Callees.{callee_name, method_of}
use Rattle.rr_eval.specs.Context.{Context}
use Rattle.rr_eval.specs.Exceptions.{with_exception}
use Rattle.rr_eval.specs.Fields.{field_response}
use Rattle.rr_eval.specs.Methods.{Work, Runs, Reads, Writes, NoWork, Callable, method_in}
use Rattle.rr_eval.specs.Operators.{integers, opposite}
use Rattle.rr_eval.specs.RactorMethods.{ractor_method}
use Rattle.rr_eval.specs.Script.{Script, Ret, See, Do, Ask, Does}
use Rattle.rr_eval.specs.Starting.{with_block_rule}

-- the name with a number
abbrev pub plain_named : Option ℕ → Option MethodName
plain_named x = option_map (λ n. Plain (record { 0 = n })) x

-- what calls a method of the program: a name, an attribute, or the symbol of an operator; `!=` asks `==`
abbrev pub called_name : Context → Callee → Option MethodName
called_name c (callees.Name x) = Some (Plain x)
called_name c (callees.Setter x) = Some (Setter x)
called_name c (callees.Operator NotEqual) = plain_named (symbol_named c.program (codes "=="))
called_name c callee = plain_named (symbol_named c.program (callee_name c callee))

abbrev pub method_called : Context → ClassId → Option MethodName → Option Callable
method_called c class None = None
method_called c class (Some x) = method_in c.program class x

-- the iteration of a name
abbrev pub iteration_of : Context → Callee → Option Iteration
iteration_of c (callees.Name x) = iteration_named (slice_index_or c.symbols x.0 [])
iteration_of c callee = None

-- whether values of the kind have a built-in method that stands in a class below Object
abbrev pub is_below : Kind → Option BuiltInMethod → Option Iteration → Bool
is_below k (Some m) i = has k m && stands_below_object k m
is_below k None (Some i) = iterates k i
is_below k None None = false

-- whether a receiver has a method of a class below Object that a call finds: a built-in one, or one of Ractor or of a ractor
unfoldable pub comes_first : Context → Table → Ref → Callee → Bool
comes_first c t v callee = is_below (kind_at t v) (method_of c callee) (iteration_of c callee) || is_some (ractor_method c v callee)

-- A top-level method belongs to Object, and so it comes behind the built-in methods of the classes below.
abbrev pub unless_below : Bool → Option Callable → Option Callable
unless_below below None = None
unless_below below (Some f) = if nat_eq f.class.0 OBJECT.0 && below then None else Some f

-- the program's method that a call of a receiver runs; none where it runs no method of the program
abbrev pub method_for : Context → Table → Ref → Callee → Option Callable
method_for c t v callee = unless_below (comes_first c t v callee) (method_called c (class_at t v) (called_name c callee))

-- the arguments among the values of a call
abbrev pub passed_on : Passing → List Ref → List Ref
passed_on All vs = vs
passed_on BehindReceiver vs = drop 1 vs

-- a call takes as many values as the method has parameters
abbrev pub counted : Context → ℕ → List Ref → Script → Script
counted c wanted vs next = if nat_eq (length vs) wanted then next else throw c (BuiltIn (Count (length vs) wanted wanted))

-- what a call comes to that reads an instance variable
abbrev pub valued_response : CallValue → Response → Response
valued_response by (Gives v) = Gives (value_by by v)
valued_response by (Throws e) = Throws e
valued_response by (Fails e) = Fails e

-- the value of a call that writes an instance variable is the value that is assigned
abbrev pub write_rule : Context → Sym → Ref → List Ref → Script
write_rule c x v [] = Ret (Gave Nil)
write_rule c x v (w ∷ ws) = See (λ m. Ask (Does (SetField x) (v ∷ w ∷ []) m.table) (settled c))

-- a call of a method of the program
abbrev pub run_work : Context → ClassId → Work → Way → List Ref → Script
run_work c class (Runs m) w vs = counted c m.parameters vs (See (λ k. entered c w class m vs k.calls))
run_work c class (Reads x) w vs = counted c 0 vs (See (λ k. settled c (valued_response w.value (field_response k.table (field_at k.table w.receiver x.0)))))
run_work c class (Writes x) w vs = counted c 1 vs (write_rule c x w.receiver vs)
run_work c class NoWork w vs = not_here c

abbrev pub run_method : Context → Callable → Way → List Ref → Script
run_method c f w vs = run_work c f.class f.work w vs

-- the last of the arguments
abbrev pub last_of : List Ref → Ref
last_of [] = Nil
last_of (v ∷ []) = v
last_of (v ∷ w ∷ ws) = last_of (w ∷ ws)

-- what the value of a call is: of an assignment the value that is assigned, and of `!=` the opposite of `==`
abbrev pub value_of_call : Callee → List Ref → CallValue
value_of_call callees.SetIndex vs = value.Other (last_of vs)
value_of_call (callees.Setter x) vs = value.Other (last_of vs)
value_of_call (callees.Operator NotEqual) vs = value.Opposite
value_of_call callee vs = value.Method

-- a block that stands beside a call, where there is one
abbrev pub handed_by : Option Tree → Handed
handed_by None = handed.Nothing
handed_by (Some t) = handed.Beside

abbrev pub way_of : Callee → Option Tree → Ref → List Ref → Way
way_of callee b v vs = record { receiver = v; block = handed_by b; tree = b; value = value_of_call callee vs }

-- ---- new objects

-- a method with statements
abbrev pub if_runs : Callable → Work → Option Callable
if_runs f (Runs m) = Some f
if_runs f _ = None

abbrev pub running_one : Option Callable → Option Callable
running_one None = None
running_one (Some f) = if_runs f f.work

-- the program's `initialize` for the objects of a class
abbrev pub initializer : Context → ClassId → Option Callable
initializer c class = running_one (method_called c class (called_name c callees.Initialize))

abbrev pub class_with : ClassId → Option Callable → Option ClassId
class_with class None = None
class_with class (Some f) = Some class

-- the class of the object that a call of a built-in method makes, where the object gets the program's `initialize`
abbrev pub made_by : Context → Option BuiltInMethod → Ref → Option ClassId
made_by c (Some New) (Class k) = if may_make c.program (Class k) then class_with k (initializer c k) else None
made_by c m v = None

-- the objects with a new one of a class; an exception has a cause, and no message yet
abbrev pub made_object : Bool → ClassId → Ref → Table → Table
made_object true class cause t = with_exception class Nil cause t
made_object false class cause t = with_object (new_plain class.0) [] t

abbrev pub with_new : Context → ClassId → Ref → Table → Table
with_new c class cause t = made_object (is_exception_class c.program class.0) class cause t

-- a new object is the value of the call, or it is raised
abbrev pub made_value : Bool → Ref → CallValue
made_value true o = value.Raises o
made_value false o = value.Other o

abbrev pub initialized : Context → Bool → Option Callable → Option Tree → Ref → List Ref → Script
initialized c raises None b o vs = Ret (valued (made_value raises o) (Gave o))
initialized c raises (Some f) b o vs = run_method c f (record { receiver = o; block = handed_by b; tree = b; value = made_value raises o }) vs

-- a new object of a class is made, with a cause where it is an exception
abbrev pub making : Context → ClassId → Ref → (Ref → Script) → Script
making c class cause next = See (λ m. Do (λ k. record k { table = with_new c class cause k.table }) (next (Local (length m.table.slots))))

-- A new object of a class is made and initialized, and is the value of the call, or is raised.
abbrev pub made_rule : Context → ClassId → Ref → Bool → Option Tree → List Ref → Script
made_rule c class cause raises b vs = making c class cause (λ o. initialized c raises (initializer c class) b o vs)

abbrev pub new_rule : Context → ClassId → Option Tree → List Ref → Script
new_rule c class b vs = made_rule c class Nil false b vs

-- a call of a built-in method; a new object may get the program's `initialize`, and a block
abbrev pub built_in : Context → Option ClassId → Callee → Option Tree → Ref → List Ref → Script
built_in c (Some class) callee b v vs = new_rule c class b vs
built_in c None callee None v vs = send_to c callee v vs
built_in c None callee (Some b) v vs = with_block_rule c (ractor_method c v callee) callee b v (last_of vs)

-- a call that runs this method of the program, or, where there is none, a built-in one
abbrev pub dispatched : Context → Option Callable → Callee → Option Tree → Ref → List Ref → Script
dispatched c (Some f) callee b v vs = run_method c f (way_of callee b v vs) vs
dispatched c None callee b v vs = built_in c (made_by c (method_of c callee) v) callee b v vs

-- a call of a receiver with these arguments
abbrev pub send_rule : Context → Callee → Option Tree → Ref → List Ref → Script
send_rule c callee b v vs = See (λ m. dispatched c (method_for c m.table v callee) callee b v vs)

-- an operator: of two integers here, and any other as a call
abbrev pub operation : Context → BinaryOperator → Ref → Ref → Script
operation c op (Int x) (Int y) = settled c (integers op x y)
operation c op v w = send_rule c (callees.Operator op) None v (w ∷ [])

-- a call with whose value a rule goes on: an operator of two integers here, and any other as it is sent
abbrev pub part_called : Context → Callee → Ref → List Ref → Script
part_called c (callees.Operator op) v (w ∷ []) = operation c op v w
part_called c callee v vs = send_rule c callee None v vs

-- unary minus
abbrev pub negation : Context → Ref → Script
negation c (Int x) = settled c (opposite x)
negation c v = send_rule c callees.Opposite None v []
