-- Any other part stands for both.
use Rattle.std.proofs.Common.{sym, ap, ◌∙◌}
use Rattle.rr_eval.specs.Rules.{key_part, value_part}
use Rattle.rr_eval.proofs.Trees.{other_key, other_value}
use Rattle.rr_eval.proofs.nodes.pair_at.Goals as goal

pub returns-in_default-clause-key : goal.returns-in_default-clause-key
returns-in_default-clause-key c =
    let ns = c.args.program.now.nodes.items in
    let node = c.evaluated_node.result in
    c.evaluated_node.ensures.tree ∙ sym (other_key ns node c.evaluated_node.ensures.evaluated c.in_default.not-Pair) ∙ ap key_part (sym c.evaluated_node.ensures.tree)

pub returns-in_default-clause-value : goal.returns-in_default-clause-value
returns-in_default-clause-value c =
    let ns = c.args.program.now.nodes.items in
    let node = c.evaluated_node.result in
    c.evaluated_node.ensures.tree ∙ sym (other_value ns node c.evaluated_node.ensures.evaluated c.in_default.not-Pair) ∙ ap value_part (sym c.evaluated_node.ensures.tree)
