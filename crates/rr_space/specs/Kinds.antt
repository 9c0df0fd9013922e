-- What kind of object, or which immediate, a reference leads to.
use Rattle.std.specs.Prelude.{ℕ, Option, Some, None}
use Rattle.rr_base.specs.declared.name.ClassId.{ClassId}
use Rattle.rr_base.specs.declared.name.TheConstants.ClassId.{CLASS, FALSE_CLASS, INTEGER, NIL_CLASS, RACTOR, SYMBOL, TRUE_CLASS}
use Rattle.rr_space.specs.Graph.{Object, Kind, text, array, hash, plain, exception, shell}
use Rattle.rr_space.specs.Tables.{Table}
use Rattle.rr_space.specs.Views.{object_at}
use Rattle.rr_space.specs.declared.refer.Ref.{Ref}
use Rattle.rr_space.specs.declared.refer.Ref.TheVariants.{Nil, False, True, Int, Symbol, Class, Ractor, Local, Shared}
use Rattle.rr_space.specs.declared.kind.Kind.{Kind as ValueKind}
use Rattle.rr_space.specs.declared.kind.Kind.TheVariants.{Nil as NilKind, Truth as TruthKind, Integer as IntegerKind, Symbol as SymbolKind, Class as ClassKind, Ractor as RactorKind, Text as TextKind, Array as ArrayKind, Hash as HashKind, Object as ObjectKind, Exception as ExceptionKind, Shell as ShellKind}

abbrev pub kind_named : Kind → ValueKind
kind_named text = TextKind
kind_named array = ArrayKind
kind_named hash = HashKind
kind_named plain = ObjectKind
kind_named exception = ExceptionKind
kind_named shell = ShellKind

abbrev pub object_kind : Option Object → ValueKind
object_kind (Some o) = kind_named o.kind
object_kind None = NilKind

-- which immediate the reference is, or the kind of the object that it leads to; where no object is, that of nil
abbrev pub kind_at : Table → Ref → ValueKind
kind_at t Nil = NilKind
kind_at t False = TruthKind
kind_at t True = TruthKind
kind_at t (Int z) = IntegerKind
kind_at t (Symbol s) = SymbolKind
kind_at t (Class c) = ClassKind
kind_at t (Ractor r) = RactorKind
kind_at t (Local n) = object_kind (object_at t (Local n))
kind_at t (Shared p c) = object_kind (object_at t (Shared p c))

abbrev pub class_named : ℕ → ClassId
class_named n = record { 0 = n }

abbrev pub object_class : Option Object → ClassId
object_class (Some o) = class_named o.class
object_class None = NIL_CLASS

-- the class of the immediate, or of the object that the reference leads to; where no object is, that of nil
abbrev pub class_at : Table → Ref → ClassId
class_at t Nil = NIL_CLASS
class_at t False = FALSE_CLASS
class_at t True = TRUE_CLASS
class_at t (Int z) = INTEGER
class_at t (Symbol s) = SYMBOL
class_at t (Class c) = CLASS
class_at t (Ractor r) = RACTOR
class_at t (Local n) = object_class (object_at t (Local n))
class_at t (Shared p c) = object_class (object_at t (Shared p c))
