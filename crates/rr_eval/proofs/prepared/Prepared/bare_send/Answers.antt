-- A call without arguments evaluates its receiver alone.
use Rattle.std.proofs.Common.{◌∙◌, ap, sym}
use Rattle.rr_tree.specs.declared.node.Node.TheVariants.{Send}
use Rattle.rr_eval.specs.Nodes.{evaluated_tree}
use Rattle.rr_eval.specs.Rules.{block_rule}
use Rattle.rr_eval.proofs.Lists.{block_send_is}
use Rattle.rr_eval.proofs.prepared.Prepared.bare_send.Goals as goal

pub returns-in-0 : goal.returns-in-0
returns-in-0 c own b =
    let ns = c.args.self.now.program.nodes.items in
    let node = c.in-Some-Send in
    let is = node.field-0-is ∙ ap (λ k. Send node.receiver node.name node.field-0-2 k node.field-0-4) c.in-0.is in
    ap (λ t. block_rule own t b) (node.ensures.tree ∙ ap (evaluated_tree ns) is)
    ∙ sym (block_send_is ns own node.receiver node.name node.field-0-2 0 node.field-0-4 b)
