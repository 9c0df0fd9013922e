-- What an exception says.
use Rattle.std.specs.Prelude.{ℕ, List, [], ◌++◌, codes, slice_index_or}
use Rattle.rr_base.specs.declared.class.BuiltInClass.{BuiltInClass}
use Rattle.rr_base.specs.declared.class.BuiltInClass.TheVariants as built_in
use Rattle.rr_text.specs.Names.{names_of}
use Rattle.rr_builtin.specs.Problems.{problem_class, problem_text, missing_text}
use Rattle.rr_eval.specs.declared.problem.Problem.{Problem}
use Rattle.rr_eval.specs.declared.problem.Problem.TheVariants.{BuiltIn, MissingMethod, MissingName, MissingConstant, IsolatedConstant, IsolatedGlobal, UnknownKeyword, NoRactorBlock, UsesYield, NoRactors, HistoryFull, NotRaisable, Unhandled, NoBlock, Jump, NotHere}
use Rattle.rr_eval.specs.Callees.{callee_name}
use Rattle.rr_eval.specs.Context.{Context}

abbrev pub message : Context → Problem → List ℕ
message c (BuiltIn p) = problem_text (names_of c.program) p
message c (MissingMethod callee receiver) = missing_text (names_of c.program) (callee_name c callee) receiver
message c (MissingName x) = codes "undefined local variable or method '" ++ slice_index_or c.symbols x.0 [] ++ codes "'"
message c (MissingConstant x) = codes "uninitialized constant " ++ slice_index_or c.symbols x.0 []
message c (IsolatedConstant x) = codes "constant " ++ slice_index_or c.symbols x.0 [] ++ codes " is not shareable"
message c (IsolatedGlobal x) = codes "global " ++ slice_index_or c.symbols x.0 []
message c UnknownKeyword = codes "unknown keyword"
message c NoRactorBlock = codes "must be called with a block"
message c UsesYield = codes "can not isolate a Proc because it uses yield."
message c NoRactors = codes "no ractors here"
message c HistoryFull = codes "history full"
message c NotRaisable = codes "exception class/object expected"
message c Unhandled = codes "unhandled exception"
message c NoBlock = codes "no block"
message c Jump = codes "jump"
message c NotHere = codes "not here yet"

-- the class of the exception
abbrev pub exception_class : Problem → BuiltInClass
exception_class (BuiltIn p) = problem_class p
exception_class (MissingMethod callee receiver) = built_in.NoMethodError
exception_class (MissingName x) = built_in.NameError
exception_class (MissingConstant x) = built_in.NameError
exception_class (IsolatedConstant x) = built_in.IsolationError
exception_class (IsolatedGlobal x) = built_in.IsolationError
exception_class UnknownKeyword = built_in.ArgumentError
exception_class NoRactorBlock = built_in.ArgumentError
exception_class UsesYield = built_in.ArgumentError
exception_class NoRactors = built_in.RactorError
exception_class HistoryFull = built_in.RactorError
exception_class NotRaisable = built_in.TypeError
exception_class Unhandled = built_in.RuntimeError
exception_class NoBlock = built_in.LocalJumpError
exception_class Jump = built_in.LocalJumpError
exception_class NotHere = built_in.RuntimeError
