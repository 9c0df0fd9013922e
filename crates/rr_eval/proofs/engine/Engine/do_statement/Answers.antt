-- The statement is an assignment whose value is known.
use Rattle.std.proofs.Common.{◌+◌, length}
use Rattle.rr_tree.specs.Tree.{tree_at}
use Rattle.rr_eval.specs.Views.{view_of}
use Rattle.rr_eval.specs.Within.{reach, AreReached}
use Rattle.rr_eval.proofs.Holding.{with_variable}
use Rattle.rr_eval.proofs.StraightRounds.{sets_calls, statement_sets}
use Rattle.rr_eval.proofs.engine.Engine.do_statement.Goals as goal

pub returns-clause-sets : goal.returns-clause-sets
returns-clause-sets c =
    let p = c.args.prepared.now.program in
    let m = view_of c.args.self.now in
    let t = c.args.space.now in
    let ns = p.nodes.items in
    let statement = c.in_ok-statement.statement in
    let found = c.in_ok-found.found in
    let tree = tree_at ns c.args.place in
    sets_calls p m t tree (found.steps + statement.steps) statement.variable found.value c.write.new.self c.write.ensures.frames c.write.ensures.limit
    (statement_sets p m t tree statement.variable (tree_at ns statement.value) statement.steps found.steps found.value c.in_ok-statement.ensures.assigns c.in_ok-found.ensures.takes)

pub returns-clause-within : goal.returns-clause-within
unfolding AreReached
returns-clause-within c clusters h =
    let m = view_of c.args.self.now in
    with_variable (reach (length c.args.space.now.slots) clusters) m c.write.new.self c.in_ok-statement.statement.variable c.in_ok-found.found.value m.control c.write.ensures.frames h (c.in_ok-found.ensures.within clusters h) h.control
