-- Global variables.
use Rattle.std.specs.Prelude.{[], ◌∷◌, if◌then◌else◌}
use Rattle.rr_base.specs.declared.name.Sym.{Sym}
use Rattle.rr_space.specs.Tables.{Table}
use Rattle.rr_space.specs.declared.refer.Ref.{Ref}
use Rattle.rr_space.specs.declared.refer.Ref.TheVariants.{Local}
use Rattle.rr_builtin.specs.Fields.{field_at}
use Rattle.rr_eval.specs.declared.call.Task.TheVariants.{SetGlobal}
use Rattle.rr_eval.specs.declared.problem.Problem.TheVariants.{IsolatedGlobal}
use Rattle.rr_eval.specs.Basics.{settled, throw}
use Rattle.rr_eval.specs.Context.{Context}
use Rattle.rr_eval.specs.Fields.{field_response}
use Rattle.rr_eval.specs.Owners.{is_main}
use Rattle.rr_eval.specs.Script.{Script, See, Ask, Does}

-- The object whose fields are the global variables and the constants: the second object of a script, to which no value leads. The
-- name of a global variable begins with `$`, and that of a constant with a capital letter.
abbrev pub globals : Ref
globals = Local 1

-- Only the main ractor uses global variables.
abbrev pub in_main : Context → Sym → Table → Script → Script
in_main c x t main = if is_main t then main else throw c (IsolatedGlobal x)

-- what a global variable holds; nil where it is unset
abbrev pub global_rule : Context → Sym → Script
global_rule c x = See (λ m. in_main c x m.table (settled c (field_response m.table (field_at m.table globals x.0))))

-- a global variable gets a value, which is the value of the assignment
abbrev pub set_global_rule : Context → Sym → Ref → Script
set_global_rule c x v = See (λ m. in_main c x m.table (Ask (Does (SetGlobal x) (v ∷ []) m.table) (settled c)))
