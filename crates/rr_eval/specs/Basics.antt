-- What rules are made of.
use Rattle.std.specs.Prelude.{List, [], ◌∷◌, ◌++◌, length, Option, Some, None}
use Rattle.rr_base.specs.Classes.{class_id}
use Rattle.rr_base.specs.declared.name.ClassId.{ClassId}
use Rattle.rr_space.specs.Tables.{Table}
use Rattle.rr_space.specs.declared.refer.Ref.{Ref}
use Rattle.rr_space.specs.declared.refer.Ref.TheVariants.{Nil, Local}
use Rattle.rr_tree.specs.Tree.{Tree, Trees, local, empty, then_one}
use Rattle.rr_builtin.specs.Acts.{with_text}
use Rattle.rr_eval.specs.declared.call_stack.Variable.{Variable}
use Rattle.rr_eval.specs.declared.call.Callee.{Callee}
use Rattle.rr_eval.specs.declared.problem.Answer.{Answer}
use Rattle.rr_eval.specs.declared.problem.Answer.TheVariants.{Gave, Raised, Broke, Done, Returned, Ends}
use Rattle.rr_eval.specs.declared.problem.Problem.{Problem}
use Rattle.rr_eval.specs.declared.problem.Problem.TheVariants.{NotHere}
use Rattle.rr_eval.specs.declared.problem.Response.{Response}
use Rattle.rr_eval.specs.declared.problem.Response.TheVariants.{Gives, Throws, Fails}
use Rattle.rr_eval.specs.Context.{Context}
use Rattle.rr_eval.specs.Exceptions.{with_exception}
use Rattle.rr_eval.specs.Messages.{message, exception_class}
use Rattle.rr_eval.specs.Script.{Script, Ret, Go, See, Do, Ask, Calls}
use Rattle.rr_eval.specs.Variables.{read_variable, write_variable}

-- the trees of a list
abbrev pub items : Trees → List Tree
items empty = []
items (then_one list t) = items list ++ t ∷ []

-- goes on with a value; an exception, a `break`, a `next`, a `return` and what ends a frame pass
abbrev pub on_value : (Ref → Script) → Answer → Script
on_value go_on (Gave v) = go_on v
on_value go_on (Raised e) = Ret (Raised e)
on_value go_on (Broke v) = Ret (Broke v)
on_value go_on (Done v) = Ret (Done v)
on_value go_on (Returned v) = Ret (Returned v)
on_value go_on (Ends number v) = Ret (Ends number v)

-- evaluates a tree and goes on with its value
abbrev pub with_value : Tree → (Ref → Script) → Script
with_value t go_on = Go t (on_value go_on)

-- the value of a variable
abbrev pub read : Variable → Script
read x = See (λ m. Ret (Gave (read_variable x m.calls.frames)))

-- gives a variable a value
abbrev pub write : Variable → Ref → Script
write x v = Do (λ m. record m { calls = record m.calls { frames = write_variable x v m.calls.frames } }) (Ret (Gave v))

-- makes an exception of a class, with a message, and raises it; its cause is the exception that is being rescued
abbrev pub raise : ClassId → Ref → Script
raise class message = See (λ m. Do (λ k. record k { table = with_exception class message k.rescuing k.table }) (Ret (Raised (Local (length m.table.slots)))))

-- the same, where the message is made first
abbrev pub throw : Context → Problem → Script
throw c e = See (λ m. Do (λ k. record k { table = with_text (message c e) k.table }) (raise (class_id (exception_class e)) (Local (length m.table.slots))))

-- what an operation or a request came to: its value, or its exception
abbrev pub settled : Context → Response → Script
settled c (Gives v) = Ret (Gave v)
settled c (Throws e) = Ret (Raised e)
settled c (Fails e) = throw c e

-- asks for a call of a method
abbrev pub send_to : Context → Callee → Ref → List Ref → Script
send_to c callee receiver arguments = Ask (Calls receiver callee arguments) (settled c)

-- an operation on the objects
abbrev pub on_table : Context → (Table → Response × Table) → Script
on_table c act = See (λ m. Do (λ k. record k { table = (act k.table).1 }) (settled c (act m.table).0))

-- statements, one after the other; the last one's answer
abbrev pub statements : List Tree → Script
statements [] = Ret (Gave Nil)
statements (t ∷ []) = Go t Ret
statements (t ∷ u ∷ ts) = with_value t (λ v. statements (u ∷ ts))

-- the values of trees from left to right, after those that stand
abbrev pub values : List Tree → List Ref → (List Ref → Script) → Script
values [] stand go_on = go_on stand
values (t ∷ ts) stand go_on = with_value t (λ v. values ts (stand ++ v ∷ []) go_on)

-- the variable that a target is, where it is one
abbrev pub variable_of : Tree → Option Variable
variable_of (local depth slot x behind) = Some (record { depth = depth; slot = slot })
variable_of _ = None

-- what is not evaluated yet
abbrev pub not_here : Context → Script
not_here c = throw c NotHere
