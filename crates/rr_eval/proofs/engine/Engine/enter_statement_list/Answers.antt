-- The rule of a block is what its statements come to.
use Rattle.std.proofs.Common.{◌∙◌, ap}
use Rattle.rr_eval.specs.Nodes.{evaluated_tree}
use Rattle.rr_eval.specs.Rules.{rule}
use Rattle.rr_eval.specs.Turns.{context_of}
use Rattle.rr_eval.proofs.engine.Engine.enter_statement_list.Goals as goal

pub visit_body-requires-clause-script : goal.visit_body-requires-clause-script
visit_body-requires-clause-script c =
    let p = c.args.program.now in
    let node = c.in-Some-Block in
    ap (rule (context_of p)) (node.ensures.tree ∙ ap (evaluated_tree p.nodes.items) node.field-0-is)
