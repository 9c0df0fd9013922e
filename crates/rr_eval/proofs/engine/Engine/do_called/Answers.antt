-- The variable gets the value.
use Rattle.std.proofs.Common.{ℕ, ◌+◌, ◌∙◌, ap, subst, sym}
use Rattle.rr_tree.specs.Tree.{tree_at}
use Rattle.rr_eval.specs.Nodes.{evaluated_tree}
use Rattle.rr_eval.specs.StraightRounds.{SetsNow}
use Rattle.rr_eval.specs.Views.{view_of}
use Rattle.rr_eval.specs.Within.{AreReached}
use Rattle.rr_eval.specs.declared.call_stack.Variable.{Variable as Named}
use Rattle.rr_eval.proofs.Holding.{with_variable}
use Rattle.rr_eval.proofs.StraightRounds.{assigned, assignment_sets, sets_calls}
use Rattle.rr_eval.proofs.engine.Engine.do_called.Goals as goal

abbrev named : ℕ → ℕ → Named
named depth slot = record { depth = depth; slot = slot }

pub returns-clause-sets : goal.returns-clause-sets
returns-clause-sets c =
    let p = c.args.prepared.now.program in
    let m = view_of c.args.self.now in
    let t = c.args.space.now in
    let ns = p.nodes.items in
    let node = c.in-Some-Assign in
    let found = c.in_ok-found.found in
    let x = named node.depth node.slot in
    let at = node.ensures.tree ∙ ap (evaluated_tree ns) node.field-0-is in
    let done = assignment_sets p m t node.depth node.slot node.field-0-2.0 node.field-0-3 found.steps (tree_at ns node.value) found.value c.in_ok-found.ensures.takes in
    sets_calls p m t (tree_at ns c.args.place) (found.steps + 1) x found.value c.write.new.self c.write.ensures.frames c.write.ensures.limit
    (subst (λ z. SetsNow p m t z (found.steps + 1) found.value (assigned x found.value m)) (sym at) done)

pub returns-clause-within : goal.returns-clause-within
unfolding AreReached
returns-clause-within c k h =
    let m = view_of c.args.self.now in
    let node = c.in-Some-Assign in
    with_variable k m c.write.new.self (named node.depth node.slot) c.in_ok-found.found.value m.control c.write.ensures.frames h (c.in_ok-found.ensures.within k h) h.control
