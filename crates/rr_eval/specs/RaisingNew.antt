-- `raise` of a class whose exceptions get the program's `initialize`.
use Rattle.std.specs.Prelude.{true, List, [], ◌∷◌, if◌then◌else◌, Option, Some, None}
use Rattle.rr_base.specs.declared.name.ClassId.{ClassId}
use Rattle.rr_space.specs.declared.refer.Ref.{Ref}
use Rattle.rr_space.specs.declared.refer.Ref.TheVariants.{Class}
use Rattle.rr_builtin.specs.News.{is_exception_class}
use Rattle.rr_eval.specs.declared.call.Passing.TheVariants.{BehindReceiver}
use Rattle.rr_eval.specs.Context.{Context}
use Rattle.rr_eval.specs.Dispatch.{class_with, initializer, made_rule, passed_on}
use Rattle.rr_eval.specs.Raising.{raise_rule}
use Rattle.rr_eval.specs.Script.{Script, See}

-- the class of the exception that `raise` of a value makes, where it gets the program's `initialize`
abbrev pub initialized_class : Context → Ref → Option ClassId
initialized_class c (Class k) = if is_exception_class c.program k.0 then class_with k (initializer c k) else None
initialized_class c v = None

-- the same of the values of a `raise`, of which the first one says what is raised, and a second one is an argument
abbrev pub class_raised : Context → List Ref → Option ClassId
class_raised c [] = None
class_raised c (v ∷ []) = initialized_class c v
class_raised c (v ∷ w ∷ []) = initialized_class c v
class_raised c (v ∷ w ∷ x ∷ vs) = None

-- A new exception is made and initialized with these values, and then raised. Its cause is the exception that is being rescued.
abbrev pub raise_initialized : Context → ClassId → List Ref → Script
raise_initialized c class vs = See (λ m. made_rule c class m.rescuing true None vs)

abbrev pub raise_made : Context → Option ClassId → List Ref → Script
raise_made c None vs = raise_rule c vs
raise_made c (Some class) vs = raise_initialized c class (passed_on BehindReceiver vs)

-- `raise` with these arguments
abbrev pub raised_with : Context → List Ref → Script
raised_with c vs = raise_made c (class_raised c vs) vs
