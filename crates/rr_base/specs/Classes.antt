-- The names and the numbers of the built-in classes.
use Rattle.std.specs.Prelude.{ℕ, List, codes}
use Rattle.rr_base.specs.declared.class.BuiltInClass.{BuiltInClass}
use Rattle.rr_base.specs.declared.class.BuiltInClass.TheVariants as built_in
use Rattle.rr_base.specs.declared.name.ClassId.{ClassId}
use Rattle.rr_base.specs.declared.name.TheConstants.ClassId as number

abbrev pub class_name : BuiltInClass → List ℕ
class_name built_in.BasicObject = codes "BasicObject"
class_name built_in.MovedObject = codes "Ractor::MovedObject"
class_name built_in.Object = codes "Object"
class_name built_in.Integer = codes "Integer"
class_name built_in.String = codes "String"
class_name built_in.Symbol = codes "Symbol"
class_name built_in.Array = codes "Array"
class_name built_in.Hash = codes "Hash"
class_name built_in.NilClass = codes "NilClass"
class_name built_in.TrueClass = codes "TrueClass"
class_name built_in.FalseClass = codes "FalseClass"
class_name built_in.Class = codes "Class"
class_name built_in.Ractor = codes "Ractor"
class_name built_in.Exception = codes "Exception"
class_name built_in.SystemStackError = codes "SystemStackError"
class_name built_in.StandardError = codes "StandardError"
class_name built_in.ArgumentError = codes "ArgumentError"
class_name built_in.IndexError = codes "IndexError"
class_name built_in.StopIteration = codes "StopIteration"
class_name built_in.ClosedError = codes "Ractor::ClosedError"
class_name built_in.LocalJumpError = codes "LocalJumpError"
class_name built_in.NameError = codes "NameError"
class_name built_in.NoMethodError = codes "NoMethodError"
class_name built_in.RangeError = codes "RangeError"
class_name built_in.RuntimeError = codes "RuntimeError"
class_name built_in.FrozenError = codes "FrozenError"
class_name built_in.TypeError = codes "TypeError"
class_name built_in.ZeroDivisionError = codes "ZeroDivisionError"
class_name built_in.RactorError = codes "Ractor::Error"
class_name built_in.RemoteError = codes "Ractor::RemoteError"
class_name built_in.MovedError = codes "Ractor::MovedError"
class_name built_in.IsolationError = codes "Ractor::IsolationError"

abbrev pub class_id : BuiltInClass → ClassId
class_id built_in.BasicObject = number.BASIC_OBJECT
class_id built_in.MovedObject = number.MOVED_OBJECT
class_id built_in.Object = number.OBJECT
class_id built_in.Integer = number.INTEGER
class_id built_in.String = number.STRING
class_id built_in.Symbol = number.SYMBOL
class_id built_in.Array = number.ARRAY
class_id built_in.Hash = number.HASH
class_id built_in.NilClass = number.NIL_CLASS
class_id built_in.TrueClass = number.TRUE_CLASS
class_id built_in.FalseClass = number.FALSE_CLASS
class_id built_in.Class = number.CLASS
class_id built_in.Ractor = number.RACTOR
class_id built_in.Exception = number.EXCEPTION
class_id built_in.SystemStackError = number.SYSTEM_STACK_ERROR
class_id built_in.StandardError = number.STANDARD_ERROR
class_id built_in.ArgumentError = number.ARGUMENT_ERROR
class_id built_in.IndexError = number.INDEX_ERROR
class_id built_in.StopIteration = number.STOP_ITERATION
class_id built_in.ClosedError = number.CLOSED_ERROR
class_id built_in.LocalJumpError = number.LOCAL_JUMP_ERROR
class_id built_in.NameError = number.NAME_ERROR
class_id built_in.NoMethodError = number.NO_METHOD_ERROR
class_id built_in.RangeError = number.RANGE_ERROR
class_id built_in.RuntimeError = number.RUNTIME_ERROR
class_id built_in.FrozenError = number.FROZEN_ERROR
class_id built_in.TypeError = number.TYPE_ERROR
class_id built_in.ZeroDivisionError = number.ZERO_DIVISION_ERROR
class_id built_in.RactorError = number.RACTOR_ERROR
class_id built_in.RemoteError = number.REMOTE_ERROR
class_id built_in.MovedError = number.MOVED_ERROR
class_id built_in.IsolationError = number.ISOLATION_ERROR
