-- A variable that is true stays.
use Rattle.std.proofs.Common.{◌∙◌, ap}
use Rattle.rr_tree.specs.Tree.{tree_at}
use Rattle.rr_eval.specs.Nodes.{evaluated_tree}
use Rattle.rr_eval.specs.Rules.{rule}
use Rattle.rr_eval.specs.Turns.{context_of}
use Rattle.rr_eval.specs.Updating.{place_of}
use Rattle.rr_eval.proofs.Updates.{or_leaves}
use Rattle.rr_eval.proofs.engine.Engine.visit_or.Goals as goal

pub leave_true-requires-clause-leaves : goal.leave_true-requires-clause-leaves
leave_true-requires-clause-leaves c m t steps v =
    let p = c.args.prepared.now.program in
    let ns = p.nodes.items in
    let own = context_of p in
    let its = c.in-Some-Local.ensures.tree ∙ ap (evaluated_tree ns) c.in-Some-Local.field-0-is in
    or_leaves p m t (tree_at ns c.args.target) (tree_at ns c.args.part) _ (rule own (tree_at ns c.args.here)) steps v (ap (rule own) c.requires.tree) (ap place_of its) (λ x is. cc is)

pub leave_true-requires-in-Some-Field-clause-leaves : goal.leave_true-requires-in-Some-Field-clause-leaves
leave_true-requires-in-Some-Field-clause-leaves c m t steps v =
    let p = c.args.prepared.now.program in
    let ns = p.nodes.items in
    let own = context_of p in
    let its = c.in-Some-Field.ensures.tree ∙ ap (evaluated_tree ns) c.in-Some-Field.field-0-is in
    or_leaves p m t (tree_at ns c.args.target) (tree_at ns c.args.part) _ (rule own (tree_at ns c.args.here)) steps v (ap (rule own) c.requires.tree) (ap place_of its) (λ x is. cc is)
