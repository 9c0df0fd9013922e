-- The variable gets the value of the operator.
use Rattle.std.proofs.Common.{ℕ, ◌+◌, ◌∙◌, ap, refl}
use Rattle.rr_tree.specs.Tree.{tree_at}
use Rattle.rr_eval.specs.declared.call_stack.Variable.{Variable as Named}
use Rattle.rr_eval.specs.Nodes.{evaluated_tree}
use Rattle.rr_eval.specs.Views.{view_of}
use Rattle.rr_eval.specs.Within.{AreReached}
use Rattle.rr_eval.proofs.Holding.{with_variable}
use Rattle.rr_eval.proofs.StraightRounds.{sets_calls, update_sets}
use Rattle.rr_eval.proofs.engine.Engine.do_update.Goals as goal

abbrev named : ℕ → ℕ → Named
named depth slot = record { depth = depth; slot = slot }

pub returns-clause-sets : goal.returns-clause-sets
returns-clause-sets c t =
    let p = c.args.prepared.now.program in
    let m = view_of c.args.self.now in
    let ns = p.nodes.items in
    let node = c.in-Some-OperatorAssign in
    let target = c.in-Some-Local in
    let other = c.in_ok-other.other in
    let total = c.in_ok-total.total in
    let tree = tree_at ns c.args.place in
    sets_calls p m t tree (other.steps + 3) (named target.depth target.slot) total c.write.new.self c.write.ensures.frames c.write.ensures.limit
    (update_sets p m t node.op target.depth target.slot target.field-0-2.0 target.field-0-3 other.steps (other.steps + 3) tree (tree_at ns node.target) (tree_at ns node.value) c.variable.result other.value total
    (node.ensures.tree ∙ ap (evaluated_tree ns) node.field-0-is) (target.ensures.tree ∙ ap (evaluated_tree ns) target.field-0-is) c.variable.ensures.value (c.in_ok-other.ensures.takes t) c.in_ok-total.ensures.gives refl)

pub returns-clause-within : goal.returns-clause-within
unfolding AreReached
returns-clause-within c k h =
    let m = view_of c.args.self.now in
    let target = c.in-Some-Local in
    with_variable k m c.write.new.self (named target.depth target.slot) c.in_ok-total.total m.control c.write.ensures.frames h (c.in_ok-total.ensures.within k) h.control
