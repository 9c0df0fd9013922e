-- The value is evaluated at once.
use Rattle.std.proofs.Common.{◌≡◌, ◌∙◌, ◌+◌, ◌-◌, ap, arith, length}
use Rattle.rr_tree.specs.Tree.{tree_at}
use Rattle.rr_eval.specs.Fields.{set_field_rule}
use Rattle.rr_eval.specs.Rules.{rule}
use Rattle.rr_eval.specs.Turns.{context_of, after_script}
use Rattle.rr_eval.specs.Views.{view_of}
use Rattle.rr_eval.specs.Within.{reach}
use Rattle.rr_eval.proofs.Holding.{with_left}
use Rattle.rr_eval.proofs.QuickRequests.{value_comes}
use Rattle.rr_eval.proofs.QuickSends.{comes_first}
use Rattle.rr_eval.proofs.engine.Engine.assign_part.Goals as goal

pub returns-clause-goes : goal.returns-clause-goes
returns-clause-goes c h =
    let p = c.args.prepared.now.program in
    let ns = p.nodes.items in
    let own = context_of p in
    let m = view_of c.args.self.now in
    let t = c.args.space.now in
    let found = c.in-Some.found in
    let next = set_field_rule own c.args.name in
    let spent : m.left - (found.steps + 1) ≡ m.left - found.steps - 1 = omega arith in
    comes_first p m t c.args.here found.steps (next found.value) h c.requires.control
    (value_comes p m t (rule own (tree_at ns c.args.here)) (tree_at ns c.args.value) found.steps found.value next c.requires.script c.in-Some.ensures.takes)
    (omega (arith, c.in-Some.ensures.enough))
    ∙ ap (after_script p m t (next found.value) h) spent
    ∙ c.field_assignment.ensures.asks p t h (m.left - found.steps - 1)

pub returns-clause-asks : goal.returns-clause-asks
returns-clause-asks c clusters h =
    let k = reach (length c.args.space.now.slots) clusters in
    c.field_assignment.ensures.within k (with_left k (view_of c.args.self.now) _ h) (c.in-Some.ensures.within clusters h)
