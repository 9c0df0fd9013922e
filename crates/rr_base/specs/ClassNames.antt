-- The built-in classes by their names.
use Rattle.std.specs.Prelude.{ℕ, List, [], ◌∷◌, Option, Some, None, if◌then◌else◌}
use Rattle.std.specs.Str.{bytes_eq}
use Rattle.rr_base.specs.Classes.{class_name}
use Rattle.rr_base.specs.declared.class.BuiltInClass.{BuiltInClass}
use Rattle.rr_base.specs.declared.class.BuiltInClass.TheVariants as built_in

-- by their numbers
abbrev pub built_in_classes : List BuiltInClass
built_in_classes =
    built_in.BasicObject ∷ built_in.MovedObject ∷ built_in.Object ∷ built_in.Integer ∷ built_in.String ∷ built_in.Symbol ∷ built_in.Array ∷ built_in.Hash
    ∷ built_in.NilClass ∷ built_in.TrueClass ∷ built_in.FalseClass ∷ built_in.Class ∷ built_in.Ractor ∷ built_in.Exception ∷ built_in.SystemStackError ∷ built_in.StandardError
    ∷ built_in.ArgumentError ∷ built_in.IndexError ∷ built_in.StopIteration ∷ built_in.ClosedError ∷ built_in.LocalJumpError ∷ built_in.NameError ∷ built_in.NoMethodError ∷ built_in.RangeError
    ∷ built_in.RuntimeError ∷ built_in.FrozenError ∷ built_in.TypeError ∷ built_in.ZeroDivisionError ∷ built_in.RactorError ∷ built_in.RemoteError ∷ built_in.MovedError ∷ built_in.IsolationError ∷ []

-- the first of these classes that has the name
abbrev pub class_among : List ℕ → List BuiltInClass → Option BuiltInClass
class_among name [] = None
class_among name (k ∷ ks) = if bytes_eq (class_name k) name then Some k else class_among name ks

-- the built-in class of a name
unfoldable pub class_named : List ℕ → Option BuiltInClass
class_named name = class_among name built_in_classes
