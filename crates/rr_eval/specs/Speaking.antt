-- How values are printed that have a `to_s` or an `inspect` of the program: each of them is asked first, from left to right, and then all are
-- printed at once.
use Rattle.std.specs.Prelude.{ℕ, ◌-◌, Bool, true, false, List, [], ◌∷◌, ◌++◌, take, drop, codes, slice_index_or, if◌then◌else◌, Option, Some, None}
use Rattle.std.specs.Option.{option_map}
use Rattle.rr_base.specs.declared.name.Sym.{Sym}
use Rattle.rr_tree.specs.Methods.{symbol_named}
use Rattle.rr_space.specs.Kinds.{kind_at}
use Rattle.rr_space.specs.Tables.{Table}
use Rattle.rr_space.specs.declared.kind.Kind.{Kind}
use Rattle.rr_space.specs.declared.kind.Kind.TheVariants.{Object, Exception}
use Rattle.rr_space.specs.declared.refer.Ref.{Ref}
use Rattle.rr_space.specs.declared.refer.Ref.TheVariants.{Nil}
use Rattle.rr_builtin.specs.Kinds.{is_text_kind}
use Rattle.rr_eval.specs.declared.asking.Asking.{Asking}
use Rattle.rr_eval.specs.declared.asking.Saying.{Saying}
use Rattle.rr_eval.specs.declared.asking.Saying.TheVariants as sayings
use Rattle.rr_eval.specs.declared.call.Callee.TheVariants as callees
use Rattle.rr_eval.specs.declared.call.Task.{Task}
use Rattle.rr_eval.specs.declared.call.Task.TheVariants.{Puts, Inspect, Print, Show, Lines, MakeText}
use Rattle.rr_eval.specs.declared.leaves.Taking.TheVariants as takings
use Rattle.rr_eval.specs.declared.problem.Answer.{Answer}
use Rattle.rr_eval.specs.Basics.{on_value, settled}
use Rattle.rr_eval.specs.Bound.{bind}
use Rattle.rr_eval.specs.Context.{Context}
use Rattle.rr_eval.specs.Dispatch.{method_for, run_method, way_of}
use Rattle.rr_eval.specs.Leaves.{leaves_of}
use Rattle.rr_eval.specs.Methods.{Callable}
use Rattle.rr_eval.specs.Script.{Script, See, Ask, Does}
use Rattle.rr_eval.specs.Splats.{on_items}

-- what makes texts of values
abbrev pub saying_of : Task → Option Saying
saying_of Puts = Some sayings.Puts
saying_of Inspect = Some sayings.Inspect
saying_of Print = Some sayings.Print
saying_of MakeText = Some sayings.Text
saying_of _ = None

-- what it does with what is printed for the values, where `puts` has taken arrays apart
abbrev pub task_of : Saying → Task
task_of sayings.Puts = Lines
task_of sayings.Inspect = Show
task_of sayings.Print = Print
task_of sayings.Text = MakeText

-- the method by which values are asked: its name, and its symbol, without which a program defines none
abbrev pub method_asked : Saying → List ℕ
method_asked sayings.Inspect = codes "inspect"
method_asked _ = codes "to_s"

abbrev pub symbol_asked : Context → Saying → Option Sym
symbol_asked c s = option_map (λ n. record { 0 = n }) (symbol_named c.program (method_asked s))

-- plain objects and exceptions are asked
abbrev pub may_say : Kind → Bool
may_say Object = true
may_say Exception = true
may_say _ = false

-- the program's method by which a value is asked
abbrev pub sayer : Context → Table → Sym → Ref → Option Callable
sayer c t x v = if may_say (kind_at t v) then method_for c t v (callees.Name x) else None

-- what a method said: a text; another value counts as nothing said
abbrev pub text_in : Table → Ref → Option Ref
text_in t v = if is_text_kind (kind_at t v) then Some v else None

abbrev pub heard : (Option Ref → Script) → Answer → Script
heard next = on_value (λ w. See (λ m. next (text_in m.table w)))

-- a value is asked, where it has such a method
abbrev pub asked_by : Context → Option Callable → Sym → Ref → (Option Ref → Script) → Script
asked_by c None x v next = next None
asked_by c (Some f) x v next = bind (run_method c f (way_of (callees.Name x) None v []) []) (heard next)

-- What is printed for a value: what it said, or itself. `p` gives its values, so that each stands before what it said, or before nil.
abbrev pub printed_for : Saying → Ref → Option Ref → List Ref
printed_for sayings.Inspect v None = v ∷ Nil ∷ []
printed_for sayings.Inspect v (Some text) = v ∷ text ∷ []
printed_for s v None = v ∷ []
printed_for s v (Some text) = text ∷ []

-- a task with values
abbrev pub request : Context → Task → List Ref → Script
request c task vs = See (λ m. Ask (Does task vs m.table) (settled c))

-- the values are asked one after the other, behind those for which this is printed, and then all is printed
abbrev pub asked_all : Context → Saying → Sym → List Ref → List Ref → Script
asked_all c s x [] done = request c (task_of s) done
asked_all c s x (v ∷ vs) done = See (λ m. asked_by c (sayer c m.table x v) x v (λ said. asked_all c s x vs (done ++ printed_for s v said)))

-- `puts` takes arrays apart, and asks what stands in them
abbrev pub named_rule : Context → Saying → Sym → List Ref → Script
named_rule c sayings.Puts x vs = See (λ m. on_items c (leaves_of takings.Lines m.table vs) (λ ws. asked_all c sayings.Puts x ws []))
named_rule c s x vs = asked_all c s x vs []

abbrev pub said_rule : Context → Task → Saying → Option Sym → List Ref → Script
said_rule c task s None vs = request c task vs
said_rule c task s (Some x) vs = named_rule c s x vs

abbrev pub saying_rule : Context → Task → Option Saying → List Ref → Script
saying_rule c task None vs = request c task vs
saying_rule c task (Some s) vs = said_rule c task s (symbol_asked c s) vs

-- a task with values, of which those are asked first that have a method for it
abbrev pub task_rule : Context → Task → List Ref → Script
task_rule c task [] = request c task []
task_rule c task (v ∷ vs) = saying_rule c task (saying_of task) (v ∷ vs)

-- What follows when the last of the values that were seen has said this. The values stand from a base on, and behind them what is printed for
-- those before.
abbrev pub asked_on : Context → Asking → List Ref → Option Ref → Script
asked_on c a stand said = asked_all c a.saying a.name (drop a.seen (take a.count stand)) (drop a.count stand ++ printed_for a.saying (slice_index_or stand (a.seen - 1) Nil) said)
