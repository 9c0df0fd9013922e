-- The classes and the messages of exceptions that built-in methods raise.
use Rattle.std.specs.Prelude.{ℕ, true, false, List, ◌++◌, codes, nat_lt, if◌then◌else◌}
use Rattle.std.specs.Fmt.{decimal}
use Rattle.rr_base.specs.declared.class.BuiltInClass.{BuiltInClass}
use Rattle.rr_base.specs.declared.class.BuiltInClass.TheVariants.{ArgumentError, FrozenError, IndexError, MovedError, RangeError, SystemStackError, TypeError, ZeroDivisionError}
use Rattle.rr_text.specs.Forms.{Names}
use Rattle.rr_builtin.specs.declared.problem.Problem.{Problem}
use Rattle.rr_builtin.specs.declared.problem.Problem.TheVariants.{DividedByZero, OutOfRange, Count, Frozen, Incomparable, WrongType, IndexOutOfRange, Negative, Moved, TooDeep, Circular}
use Rattle.rr_builtin.specs.declared.problem.Receiver.{Receiver}
use Rattle.rr_builtin.specs.declared.problem.Receiver.TheVariants.{Nil, Truth, Class, Instance}

abbrev pub problem_class : Problem → BuiltInClass
problem_class DividedByZero = ZeroDivisionError
problem_class OutOfRange = RangeError
problem_class (Count given least most) = ArgumentError
problem_class (Frozen c) = FrozenError
problem_class (Incomparable c d) = ArgumentError
problem_class (WrongType c) = TypeError
problem_class IndexOutOfRange = IndexError
problem_class Negative = ArgumentError
problem_class Moved = MovedError
problem_class TooDeep = SystemStackError
problem_class Circular = ArgumentError

-- how many arguments a method takes
abbrev pub expected_text : ℕ → ℕ → List ℕ
expected_text least most = if nat_lt least most then decimal least ++ codes ".." ++ decimal most else decimal least

abbrev pub count_text : ℕ → ℕ → ℕ → List ℕ
count_text given least most = codes "wrong number of arguments (given " ++ decimal given ++ codes ", expected " ++ expected_text least most ++ codes ")"

abbrev pub problem_text : Names → Problem → List ℕ
problem_text names DividedByZero = codes "divided by 0"
problem_text names OutOfRange = codes "integer out of 64 bits"
problem_text names (Count given least most) = count_text given least most
problem_text names (Frozen c) = codes "can't modify frozen " ++ names.class c.0
problem_text names (Incomparable c d) = codes "comparison of " ++ names.class c.0 ++ codes " with " ++ names.class d.0 ++ codes " failed"
problem_text names (WrongType c) = codes "wrong type " ++ names.class c.0
problem_text names IndexOutOfRange = codes "index out of range"
problem_text names Negative = codes "argument must be non-negative"
problem_text names Moved = codes "moved object"
problem_text names TooDeep = codes "stack level too deep"
problem_text names Circular = codes "recursive array join"

-- what a message calls the receiver of a missing method
abbrev pub receiver_text : Names → Receiver → List ℕ
receiver_text names Nil = codes "nil"
receiver_text names (Truth true) = codes "true"
receiver_text names (Truth false) = codes "false"
receiver_text names (Class c) = codes "class " ++ names.class c.0
receiver_text names (Instance c) = codes "an instance of " ++ names.class c.0

abbrev pub missing_text : Names → List ℕ → Receiver → List ℕ
missing_text names method receiver = codes "undefined method '" ++ method ++ codes "' for " ++ receiver_text names receiver
