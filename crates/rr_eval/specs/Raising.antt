-- What `raise` raises.
use Rattle.std.specs.Prelude.{◌&&◌, not, List, [], ◌∷◌, length, if◌then◌else◌, Option, Some, None}
use Rattle.rr_base.specs.declared.name.TheConstants.ClassId.{RUNTIME_ERROR}
use Rattle.rr_space.specs.Kinds.{kind_at}
use Rattle.rr_space.specs.Tables.{Table}
use Rattle.rr_space.specs.declared.kind.Kind.{Kind}
use Rattle.rr_space.specs.declared.kind.Kind.TheVariants.{Text, Exception, Shell}
use Rattle.rr_space.specs.declared.refer.Ref.{Ref}
use Rattle.rr_space.specs.declared.refer.Ref.TheVariants.{Nil, Class}
use Rattle.rr_builtin.specs.Kinds.{is_exception}
use Rattle.rr_builtin.specs.News.{is_exception_class}
use Rattle.rr_builtin.specs.Objects.{is_nil}
use Rattle.rr_builtin.specs.declared.problem.Problem.TheVariants.{Count, Moved}
use Rattle.rr_eval.specs.declared.call.Task.TheVariants.{SetCause}
use Rattle.rr_eval.specs.declared.problem.Answer.TheVariants.{Raised}
use Rattle.rr_eval.specs.declared.problem.Problem.TheVariants.{BuiltIn, NotRaisable, Unhandled}
use Rattle.rr_eval.specs.Context.{Context}
use Rattle.rr_eval.specs.Script.{Script, Ret, See, Ask, Does}
use Rattle.rr_eval.specs.Basics.{raise, throw, settled}

-- nil stands for a message that is not given: it is the name of the class then
abbrev pub message_or_nil : Option Ref → Ref
message_or_nil None = Nil
message_or_nil (Some v) = v

-- a new exception of a class of exceptions
abbrev pub raise_new : Context → Ref → Option Ref → Script
raise_new c (Class k) message = if is_exception_class c.program k.0 then raise k (message_or_nil message) else throw c NotRaisable
raise_new c v message = throw c NotRaisable

-- by the kind of what is raised: a text alone is the message of a RuntimeError, and an exception alone is raised itself
abbrev pub raise_kind : Context → Ref → Option Ref → Kind → Script
raise_kind c v message Shell = throw c (BuiltIn Moved)
raise_kind c v None Text = raise RUNTIME_ERROR v
raise_kind c v None Exception = Ret (Raised v)
raise_kind c v message kind = raise_new c v message

-- `raise` of a value, with a message where one is given
abbrev pub raise_value : Context → Ref → Option Ref → Script
raise_value c v message = See (λ m. raise_kind c v message (kind_at m.table v))

-- the exception that is being rescued is raised again, where one is
abbrev pub raise_again : Context → Ref → Script
raise_again c Nil = throw c Unhandled
raise_again c e = Ret (Raised e)

-- `raise` with these arguments, where no exception gets a cause first
abbrev pub raise_values : Context → List Ref → Script
raise_values c [] = See (λ m. raise_again c m.rescuing)
raise_values c (v ∷ []) = raise_value c v None
raise_values c (v ∷ w ∷ []) = raise_value c v (Some w)
raise_values c (v ∷ w ∷ x ∷ vs) = throw c (BuiltIn (Count (length (v ∷ w ∷ x ∷ vs)) 0 2))

-- an exception that is raised itself while another one is being rescued, and that one
abbrev pub raised_beside : Table → Ref → List Ref → Option (Ref × Ref)
raised_beside t e [] = None
raised_beside t e (v ∷ []) = if is_exception (kind_at t v) && not (is_nil e) then Some (v, e) else None
raised_beside t e (v ∷ w ∷ vs) = None

-- Where it has no cause yet, it gets the one that is being rescued as its cause, and is raised then.
abbrev pub raise_beside : Context → List Ref → Option (Ref × Ref) → Script
raise_beside c vs None = raise_values c vs
raise_beside c vs (Some two) = See (λ m. Ask (Does SetCause (two.0 ∷ two.1 ∷ []) m.table) (settled c))

-- `raise` with these arguments
abbrev pub raise_rule : Context → List Ref → Script
raise_rule c vs = See (λ m. raise_beside c vs (raised_beside m.table m.rescuing vs))
