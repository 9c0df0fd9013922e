-- `||=` of a constant.
use Rattle.std.proofs.Common.{[], Option, Some, None}
use Rattle.rr_base.specs.declared.name.Sym.{Sym}
use Rattle.rr_builtin.specs.Fields.{field_at}
use Rattle.rr_space.specs.Tables.{Table}
use Rattle.rr_tree.specs.Tree.{Tree, constant}
use Rattle.rr_tree.specs.declared.node.Path.TheVariants as paths
use Rattle.rr_eval.specs.declared.problem.Response.{Response}
use Rattle.rr_eval.specs.declared.updating.Place.TheVariants as places
use Rattle.rr_eval.specs.declared.updating.Update.TheVariants as updates
use Rattle.rr_eval.specs.Constants.{set_response}
use Rattle.rr_eval.specs.Context.{Context}
use Rattle.rr_eval.specs.Globals.{globals}
use Rattle.rr_eval.specs.Owners.{is_main}
use Rattle.rr_eval.specs.Rules.{settled}
use Rattle.rr_eval.specs.Updating.{place_of, put, or_constant, or_asked, or_rule}
use Rattle.rr_eval.proofs.Keeping.{Keeps, if_keeps, on_value_keeps, settled_keeps}
use Rattle.rr_eval.proofs.Speeches.{bind_keeps}
use Rattle.rr_eval.proofs.Updates.{put_keeps, updated_keeps, update_keeps}

-- it takes no object away
constant_keeps : (c : Context) (r : Option Response) (x : Sym) (b : Tree) → Keeps (or_constant c r x b)
constant_keeps c None x b = on_value_keeps _ (λ v m. settled_keeps c)
constant_keeps c (Some r) x b = update_keeps c updates.Or (constant (paths.Plain x)) b (Some (places.Constant x))

asked_keeps : (c : Context) (x : Sym) (b : Tree) (t : Table) → Keeps (or_asked c x b t)
asked_keeps c x b t = λ r. bind_keeps (settled c r) _ (settled_keeps c r) (on_value_keeps _ (updated_keeps updates.Or b (put c (places.Constant x) []) (put_keeps c (places.Constant x) [])))

pub or_keeps : (c : Context) (a b : Tree) → Keeps (or_rule c a b)
or_keeps c (constant (paths.Plain x)) b = λ m. if_keeps (is_main m.table) _ _ (constant_keeps c (set_response m.table (field_at m.table globals x.0)) x b) (asked_keeps c x b m.table)
or_keeps c a b = update_keeps c updates.Or a b (place_of a)
