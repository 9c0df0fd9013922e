-- A call has these arguments.
use Rattle.std.proofs.Common.{◌∙◌, ap, sym}
use Rattle.rr_eval.specs.Nodes.{evaluated_tree}
use Rattle.rr_eval.specs.Rules.{rule}
use Rattle.rr_eval.specs.Turns.{context_of}
use Rattle.rr_eval.proofs.Lists.{send_is, yield_is}
use Rattle.rr_eval.proofs.engine.Engine.visit_called.Goals as goal

pub send_usual-requires-clause-script : goal.send_usual-requires-clause-script
send_usual-requires-clause-script c =
    let p = c.args.prepared.now.program in
    let ns = p.nodes.items in
    let x = c.in-Send in
    ap (rule (context_of p)) (c.requires.tree ∙ ap (evaluated_tree ns) x.is) ∙ sym (send_is ns (context_of p) x.receiver x.name x.first x.count x.site)

pub yield_usual-requires-clause-script : goal.yield_usual-requires-clause-script
yield_usual-requires-clause-script c =
    let p = c.args.prepared.now.program in
    let ns = p.nodes.items in
    let x = c.in-Yield in
    ap (rule (context_of p)) (c.requires.tree ∙ ap (evaluated_tree ns) x.is) ∙ sym (yield_is ns (context_of p) x.first x.count)

pub bare_usual-requires-clause-script : goal.bare_usual-requires-clause-script
bare_usual-requires-clause-script c =
    let p = c.args.prepared.now.program in
    ap (rule (context_of p)) (c.requires.tree ∙ ap (evaluated_tree p.nodes.items) c.in-Bare.is)

pub visit_rounds-requires-clause-tree : goal.visit_rounds-requires-clause-tree
visit_rounds-requires-clause-tree c = c.requires.tree ∙ ap (evaluated_tree c.args.prepared.now.program.nodes.items) c.in-Loop.is

pub visit_statements-requires-clause-tree : goal.visit_statements-requires-clause-tree
visit_statements-requires-clause-tree c = c.requires.tree ∙ ap (evaluated_tree c.args.prepared.now.program.nodes.items) c.in-Sequence.is
