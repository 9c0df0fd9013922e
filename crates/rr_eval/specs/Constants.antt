-- Constants, and the classes that they name.
use Rattle.std.specs.Prelude.{ℕ, ◌+◌, ◌^◌, nat_eq, nat_lt, position, [], ◌∷◌, if◌then◌else◌, slice_index_or, Option, Some, None}
use Rattle.rr_base.specs.Classes.{class_id}
use Rattle.rr_base.specs.ClassNames.{class_named}
use Rattle.rr_base.specs.declared.class.BuiltInClass.{BuiltInClass}
use Rattle.rr_base.specs.declared.name.ClassId.{ClassId}
use Rattle.rr_base.specs.declared.name.Sym.{Sym}
use Rattle.rr_space.specs.Tables.{Table}
use Rattle.rr_space.specs.declared.refer.Ref.{Ref}
use Rattle.rr_space.specs.declared.refer.Ref.TheVariants.{Class}
use Rattle.rr_tree.specs.declared.program.Program.{Program}
use Rattle.rr_builtin.specs.Fields.{field_at}
use Rattle.rr_builtin.specs.Rounds.{Read, Reads, ReadsNone, IsMoved}
use Rattle.rr_builtin.specs.declared.problem.Problem.TheVariants.{Moved}
use Rattle.rr_eval.specs.declared.call.Task.TheVariants.{GetConstant, SetConstant}
use Rattle.rr_eval.specs.declared.problem.Answer.TheVariants.{Gave}
use Rattle.rr_eval.specs.declared.problem.Problem.TheVariants.{BuiltIn, MissingConstant}
use Rattle.rr_eval.specs.declared.problem.Response.{Response}
use Rattle.rr_eval.specs.declared.problem.Response.TheVariants.{Fails}
use Rattle.rr_eval.specs.Basics.{throw, settled}
use Rattle.rr_eval.specs.Context.{Context}
use Rattle.rr_eval.specs.Fields.{own_response}
use Rattle.rr_eval.specs.Globals.{globals}
use Rattle.rr_eval.specs.Owners.{is_main}
use Rattle.rr_eval.specs.Responses.{own_of}
use Rattle.rr_eval.specs.Script.{Script, Ret, See, Ask, Does}

-- the class of the program that has a name, by its number
abbrev pub class_numbered : Option ℕ → Option ClassId
class_numbered None = None
class_numbered (Some i) = if nat_lt (i + 32) (2 ^ 32) then Some (record { 0 = i + 32 }) else None

abbrev pub own_class : Program → ℕ → Option ClassId
own_class p x = class_numbered (position (λ k. nat_eq k.name.0 x) p.classes.items)

-- a built-in class; no other constant is there
abbrev pub constant_rule : Context → Option BuiltInClass → Sym → Script
constant_rule c (Some k) x = Ret (Gave (Class (class_id k)))
constant_rule c None x = throw c (MissingConstant x)

-- what a constant was set to, where it was set
abbrev pub set_response : Table → Read → Option Response
set_response t (Reads x) = Some (own_response (own_of t x))
set_response t ReadsNone = None
set_response t IsMoved = Some (Fails (BuiltIn Moved))

abbrev pub unless_set : Context → Option Response → Script → Script
unless_set c (Some r) otherwise = settled c r
unless_set c None otherwise = otherwise

-- another ractor than the main one asks for what is no class
abbrev pub asked_constant : Context → Option BuiltInClass → Sym → Table → Script
asked_constant c (Some k) x t = Ret (Gave (Class (class_id k)))
asked_constant c None x t = Ask (Does (GetConstant x) [] t) (settled c)

-- what a constant was set to, or a built-in class: the main ractor has the values of constants itself
abbrev pub constant_in : Context → Sym → Table → Script
constant_in c x t =
    if is_main t then unless_set c (set_response t (field_at t globals x.0)) (constant_rule c (class_named (slice_index_or c.symbols x.0 [])) x)
    else asked_constant c (class_named (slice_index_or c.symbols x.0 [])) x t

-- A constant without a path: a class of the program, what it was set to, or a built-in class. None of them has the name of another: no
-- constant is set that names a class.
abbrev pub plain_constant : Context → Option ClassId → Sym → Script
plain_constant c (Some k) x = Ret (Gave (Class k))
plain_constant c None x = See (λ m. constant_in c x m.table)

-- a constant gets a value, which is the value of the assignment
abbrev pub set_constant_rule : Context → Sym → Ref → Script
set_constant_rule c x v = See (λ m. Ask (Does (SetConstant x) (v ∷ []) m.table) (settled c))
