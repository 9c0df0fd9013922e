-- Exceptions that are rescued, and what always follows.
use Rattle.std.specs.Prelude.{List, [], ◌∷◌, if◌then◌else◌, Option, Some, None}
use Rattle.rr_base.specs.declared.name.TheConstants.ClassId.{STANDARD_ERROR}
use Rattle.rr_space.specs.Kinds.{class_at}
use Rattle.rr_space.specs.declared.refer.Ref.{Ref}
use Rattle.rr_space.specs.declared.refer.Ref.TheVariants.{Class}
use Rattle.rr_tree.specs.Tree.{Tree, nil, clause}
use Rattle.rr_tree.specs.Ancestors.{descends}
use Rattle.rr_builtin.specs.declared.problem.Problem.TheVariants.{WrongType}
use Rattle.rr_eval.specs.declared.call_stack.Variable.{Variable}
use Rattle.rr_eval.specs.declared.problem.Answer.{Answer}
use Rattle.rr_eval.specs.declared.problem.Answer.TheVariants.{Gave, Raised, Broke, Done, Returned, Ends}
use Rattle.rr_eval.specs.declared.problem.Problem.TheVariants.{BuiltIn}
use Rattle.rr_eval.specs.Context.{Context}
use Rattle.rr_eval.specs.Script.{Script, Ret, Go, See, Do, Memory}
use Rattle.rr_eval.specs.Basics.{items, on_value, with_value, throw, variable_of}
use Rattle.rr_eval.specs.Variables.{write_variable}

-- the classes, the variable and the statements of a clause; another tree is one without classes and without a variable
abbrev pub class_parts : Tree → List Tree
class_parts (clause list a b) = items list
class_parts t = []

abbrev pub target_part : Tree → Tree
target_part (clause list a b) = a
target_part t = nil

abbrev pub body_part : Tree → Tree
body_part (clause list a b) = b
body_part t = t

-- A clause takes an exception: it is the value of the clause's variable, where there is one, and it is being rescued as long as
-- the statements of the clause are evaluated, however they end.
abbrev pub with_caught : Option Variable → Ref → Memory → Memory
with_caught None e m = record m { rescuing = e }
with_caught (Some x) e m = record m { calls = record m.calls { frames = write_variable x e m.calls.frames }; rescuing = e }

abbrev pub restored : Ref → Answer → Script
restored old a = Do (λ m. record m { rescuing = old }) (Ret a)

abbrev pub taken_by : Tree → Ref → Script
taken_by t e = See (λ m. Do (with_caught (variable_of (target_part t)) e) (Go (body_part t) (restored m.rescuing)))

-- whether an exception is of a class, or of one below it; what is no class raises
abbrev pub fitted : Context → Ref → Ref → Script → Script → Script
fitted c e (Class k) take other = See (λ m. if descends c.program (class_at m.table e).0 k.0 then take else other)
fitted c e v take other = See (λ m. throw c (BuiltIn (WrongType (class_at m.table v))))

-- the classes of a clause, each of which is evaluated when the ones before it do not fit
abbrev pub tried_classes : Context → Ref → List Tree → Script → Script → Script
tried_classes c e [] take other = other
tried_classes c e (t ∷ ts) take other = with_value t (λ v. fitted c e v take (tried_classes c e ts take other))

-- a clause without classes takes a StandardError
abbrev pub tried_clause : Context → Ref → List Tree → Script → Script → Script
tried_clause c e [] take other = fitted c e (Class STANDARD_ERROR) take other
tried_clause c e (t ∷ ts) take other = tried_classes c e (t ∷ ts) take other

-- the first clause that fits takes the exception; where none does, it stays raised
abbrev pub tried : Context → Ref → List Tree → Script
tried c e [] = Ret (Raised e)
tried c e (t ∷ ts) = tried_clause c e (class_parts t) (taken_by t e) (tried c e ts)

-- What stands behind `else` follows where nothing was raised; without it the value stays.
abbrev pub else_rule : Tree → Ref → Script
else_rule nil v = Ret (Gave v)
else_rule t v = Go t Ret

-- what clauses do with what their statements come to
abbrev pub rescue_rule : Context → List Tree → Tree → Answer → Script
rescue_rule c clauses otherwise (Gave v) = else_rule otherwise v
rescue_rule c clauses otherwise (Raised e) = tried c e clauses
rescue_rule c clauses otherwise (Broke v) = Ret (Broke v)
rescue_rule c clauses otherwise (Done v) = Ret (Done v)
rescue_rule c clauses otherwise (Returned v) = Ret (Returned v)
rescue_rule c clauses otherwise (Ends number v) = Ret (Ends number v)

-- What stands behind `ensure` follows, whatever the statements come to. Its value is dropped; where it has none, as with a
-- `return` of its own, that comes in the place of what the statements came to.
abbrev pub ensure_rule : Tree → Answer → Script
ensure_rule t a = Go t (on_value (λ v. Ret a))
