-- `super`: calls of the method above the one that runs.
use Rattle.std.specs.Prelude.{ℕ, zero, suc, List, [], ◌∷◌, ◌++◌, length, slice_index_or, codes, Bool, Option, Some, None, if◌then◌else◌}
use Rattle.std.specs.Str.{bytes_eq}
use Rattle.rr_base.specs.declared.name.Sym.{Sym}
use Rattle.rr_tree.specs.Ancestors.{superclass_of}
use Rattle.rr_tree.specs.declared.method_table.MethodName.TheVariants.{Plain}
use Rattle.rr_space.specs.Kinds.{kind_at}
use Rattle.rr_space.specs.Tables.{Table}
use Rattle.rr_space.specs.declared.kind.Kind.{Kind}
use Rattle.rr_space.specs.declared.kind.Kind.TheVariants.{Exception}
use Rattle.rr_space.specs.declared.refer.Ref.{Ref}
use Rattle.rr_space.specs.declared.refer.Ref.TheVariants.{Nil}
use Rattle.rr_builtin.specs.declared.problem.Problem.TheVariants.{Count}
use Rattle.rr_frames.specs.Frames.{Frame as Activated, read_at}
use Rattle.rr_frames.specs.declared.activation.Activation.{Activation}
use Rattle.rr_eval.specs.declared.call.Callee.TheVariants as callees
use Rattle.rr_eval.specs.declared.call.Task.TheVariants.{SetMessage}
use Rattle.rr_eval.specs.declared.call_stack.CallValue.TheVariants.{Method}
use Rattle.rr_eval.specs.declared.call_stack.Handed.TheVariants.{Same}
use Rattle.rr_eval.specs.declared.problem.Answer.TheVariants.{Gave}
use Rattle.rr_eval.specs.declared.problem.Problem.TheVariants.{BuiltIn}
use Rattle.rr_eval.specs.Basics.{throw, settled, send_to}
use Rattle.rr_eval.specs.Blocks.{running}
use Rattle.rr_eval.specs.Callees.{method_of}
use Rattle.rr_eval.specs.Context.{Context}
use Rattle.rr_eval.specs.Dispatch.{is_below, iteration_of, unless_below, run_method}
use Rattle.rr_eval.specs.Methods.{Callable, found_above}
use Rattle.rr_eval.specs.Script.{Script, Ret, See, Ask, Does}

-- the program's method that `super` calls: above the class in which the method stands that runs, on the same receiver
abbrev pub method_above : Context → Activation → Table → Option Callable
method_above c a t =
    unless_below (is_below (kind_at t a.itself) (method_of c (callees.Name a.name)) (iteration_of c (callees.Name a.name))) (found_above c.program (superclass_of c.program a.class.0) (Plain a.name))

-- an exception gets a message, nil for none, and is the value
abbrev pub with_message : Context → Ref → Ref → Script
with_message c v w = See (λ m. Ask (Does SetMessage (v ∷ w ∷ []) m.table) (settled c))

-- `initialize` of Object takes nothing, and that of an exception its message
abbrev pub initialize_above : Context → Kind → Ref → List Ref → Script
initialize_above c Exception v [] = with_message c v Nil
initialize_above c Exception v (w ∷ []) = with_message c v w
initialize_above c Exception v vs = throw c (BuiltIn (Count (length vs) 0 1))
initialize_above c k v [] = Ret (Gave Nil)
initialize_above c k v vs = throw c (BuiltIn (Count (length vs) 0 0))

abbrev pub is_initialize : Context → Sym → Bool
is_initialize c x = bytes_eq (slice_index_or c.symbols x.0 []) (codes "initialize")

-- the block of the method that runs is passed on
abbrev pub super_sent : Context → Option Callable → Activation → Table → List Ref → Script
super_sent c (Some f) a t vs = run_method c f (record { receiver = a.itself; block = Same; tree = None; value = Method }) vs
super_sent c None a t vs = if is_initialize c a.name then initialize_above c (kind_at t a.itself) a.itself vs else send_to c (callees.Name a.name) a.itself vs

abbrev pub super_rule : Context → List Ref → Script
super_rule c vs = See (λ m. super_sent c (method_above c (running m.calls.frames) m.table) (running m.calls.frames) m.table vs)

-- the first variables of a frame, so many; nil stands for one that is not there
abbrev pub first_variables : ℕ → ℕ → List Activated → List Ref
first_variables zero number frames = []
first_variables (suc count) number frames = first_variables count number frames ++ read_at number count frames ∷ []

-- the present values of the parameters of the method that runs
abbrev pub parameters_of : List Activated → List Ref
parameters_of frames = let a = running frames in first_variables a.parameters a.root frames
