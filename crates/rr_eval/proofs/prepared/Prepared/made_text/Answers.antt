-- A text literal is no splat.
use Rattle.std.proofs.Common.{◌∙◌, ap}
use Rattle.rr_tree.specs.Tree.{tree_at}
use Rattle.rr_eval.specs.Nodes.{evaluated_tree}
use Rattle.rr_eval.proofs.MadeTexts.{literal_makes, literal_plain}
use Rattle.rr_eval.proofs.prepared.Prepared.made_text.Goals as goal

pub returns-in-Some-Text-clause-makes : goal.returns-in-Some-Text-clause-makes
returns-in-Some-Text-clause-makes c m =
    let p = c.args.self.now.program in
    let node = c.in-Some-Text in
    literal_makes c.made_literal.result p m c.args.space.now c.made_literal.new.space (tree_at p.nodes.items c.args.place) node.i (node.ensures.tree ∙ ap (evaluated_tree p.nodes.items) node.field-0-is) c.made_literal.ensures.name c.made_literal.ensures.made

pub returns-in-Some-Text-clause-plain : goal.returns-in-Some-Text-clause-plain
returns-in-Some-Text-clause-plain c =
    let p = c.args.self.now.program in
    let node = c.in-Some-Text in
    literal_plain c.made_literal.result (tree_at p.nodes.items c.args.place) node.i (node.ensures.tree ∙ ap (evaluated_tree p.nodes.items) node.field-0-is)
