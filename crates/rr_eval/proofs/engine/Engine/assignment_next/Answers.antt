-- The assignment by its rule.
use Rattle.std.proofs.Common.{◌∙◌, ap}
use Rattle.rr_eval.specs.Nodes.{evaluated_tree}
use Rattle.rr_eval.specs.Rules.{rule}
use Rattle.rr_eval.specs.Turns.{context_of}
use Rattle.rr_eval.proofs.engine.Engine.assignment_next.Goals as goal

pub assign_part-requires-clause-script : goal.assign_part-requires-clause-script
assign_part-requires-clause-script c =
    let p = c.args.prepared.now.program in
    let call = c.in-Some-SetField in
    ap (rule (context_of p)) (call.ensures.tree ∙ ap (evaluated_tree p.nodes.items) call.field-0-is)
