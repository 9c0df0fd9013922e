-- What only the main ractor does takes no object away.
use Rattle.rr_base.specs.declared.name.Sym.{Sym}
use Rattle.rr_builtin.specs.Fields.{field_at}
use Rattle.rr_space.specs.Tables.{Table}
use Rattle.rr_space.specs.declared.refer.Ref.{Ref}
use Rattle.rr_eval.specs.declared.problem.Problem.TheVariants.{IsolatedGlobal}
use Rattle.rr_eval.specs.Context.{Context}
use Rattle.rr_eval.specs.Fields.{field_response}
use Rattle.rr_eval.specs.Globals.{globals, in_main, global_rule, set_global_rule}
use Rattle.rr_eval.specs.Owners.{is_main}
use Rattle.rr_eval.specs.Script.{Script}
use Rattle.rr_eval.proofs.Keeping.{Keeps, if_keeps, settled_keeps, throw_keeps}

in_main_keeps : (c : Context) (x : Sym) (t : Table) (main : Script) → Keeps main → Keeps (in_main c x t main)
in_main_keeps c x t main kept = if_keeps (is_main t) main _ kept (throw_keeps c (IsolatedGlobal x))

pub global_keeps : (c : Context) (x : Sym) → Keeps (global_rule c x)
global_keeps c x = λ m. in_main_keeps c x m.table _ (settled_keeps c (field_response m.table (field_at m.table globals x.0)))

pub set_global_keeps : (c : Context) (x : Sym) (v : Ref) → Keeps (set_global_rule c x v)
set_global_keeps c x v = λ m. in_main_keeps c x m.table _ (settled_keeps c)
