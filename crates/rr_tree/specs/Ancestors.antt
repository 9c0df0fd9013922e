-- The classes above a class.
use Rattle.std.specs.Prelude.{ℕ, zero, suc, ◌+◌, ◌-◌, Bool, true, false, nat_eq, nat_lt, length, Option, Some, None, slice_get, slice_index_or, if◌then◌else◌}
use Rattle.rr_base.specs.Classes.{class_id}
use Rattle.rr_base.specs.declared.class.BuiltInClass.{BuiltInClass}
use Rattle.rr_base.specs.declared.class.BuiltInClass.TheVariants as built_in
use Rattle.rr_base.specs.ClassNames.{built_in_classes}
use Rattle.rr_tree.specs.declared.class.Class.{Class}
use Rattle.rr_tree.specs.declared.program.Program.{Program}

-- the built-in class above a built-in class; BasicObject is above all, and has none
abbrev pub parent_of : BuiltInClass → Option BuiltInClass
parent_of built_in.BasicObject = None
parent_of built_in.MovedObject = Some built_in.BasicObject
parent_of built_in.Object = Some built_in.BasicObject
parent_of built_in.SystemStackError = Some built_in.Exception
parent_of built_in.StandardError = Some built_in.Exception
parent_of built_in.ArgumentError = Some built_in.StandardError
parent_of built_in.IndexError = Some built_in.StandardError
parent_of built_in.StopIteration = Some built_in.IndexError
parent_of built_in.ClosedError = Some built_in.StopIteration
parent_of built_in.LocalJumpError = Some built_in.StandardError
parent_of built_in.NameError = Some built_in.StandardError
parent_of built_in.NoMethodError = Some built_in.NameError
parent_of built_in.RangeError = Some built_in.StandardError
parent_of built_in.RuntimeError = Some built_in.StandardError
parent_of built_in.FrozenError = Some built_in.RuntimeError
parent_of built_in.TypeError = Some built_in.StandardError
parent_of built_in.ZeroDivisionError = Some built_in.StandardError
parent_of built_in.RactorError = Some built_in.StandardError
parent_of built_in.RemoteError = Some built_in.RactorError
parent_of built_in.MovedError = Some built_in.RactorError
parent_of built_in.IsolationError = Some built_in.RactorError
parent_of built_in.Integer = Some built_in.Object
parent_of built_in.String = Some built_in.Object
parent_of built_in.Symbol = Some built_in.Object
parent_of built_in.Array = Some built_in.Object
parent_of built_in.Hash = Some built_in.Object
parent_of built_in.NilClass = Some built_in.Object
parent_of built_in.TrueClass = Some built_in.Object
parent_of built_in.FalseClass = Some built_in.Object
parent_of built_in.Class = Some built_in.Object
parent_of built_in.Ractor = Some built_in.Object
parent_of built_in.Exception = Some built_in.Object

abbrev pub number_of : Option BuiltInClass → Option ℕ
number_of (Some b) = Some (class_id b).0
number_of None = None

abbrev pub parent_in : Option Class → Option ℕ
parent_in (Some c) = Some c.superclass.0
parent_in None = None

-- the number of the class above a class
unfoldable pub superclass_of : Program → ℕ → Option ℕ
superclass_of p n = if nat_lt n 32 then number_of (parent_of (slice_index_or built_in_classes n built_in.BasicObject)) else parent_in (slice_get p.classes.items (n - 32))

abbrev pub holds_of : (ℕ → Bool) → Option ℕ → Bool
holds_of f (Some c) = f c
holds_of f None = false

-- whether the second class is the first, or stands so few steps above it
abbrev pub is_among : Program → ℕ → ℕ → ℕ → Bool
is_among p zero c d = nat_eq c d
is_among p (suc steps) c d = if nat_eq c d then true else holds_of (λ s. is_among p steps s d) (superclass_of p c)

-- whether the second class is the first or stands above it: there are no more classes than steps
unfoldable pub descends : Program → ℕ → ℕ → Bool
descends p c d = is_among p (length p.classes.items + 32) c d
