-- The tree at the place is that of the node there.
use Rattle.std.proofs.Common.{◌∙◌, ap, sym}
use Rattle.rr_eval.specs.Nodes.{evaluated_tree}
use Rattle.rr_eval.specs.Rules.{rule}
use Rattle.rr_eval.specs.Turns.{context_of}
use Rattle.rr_eval.proofs.Lists.{call_is}
use Rattle.rr_eval.proofs.engine.Engine.visit_often.Goals as goal

pub visit_choice-requires-clause-tree : goal.visit_choice-requires-clause-tree
visit_choice-requires-clause-tree c =
    let p = c.args.prepared.now.program in
    c.in-Some.ensures.tree ∙ ap (evaluated_tree p.nodes.items) c.in-Choose.is

pub visit_store-requires-clause-script : goal.visit_store-requires-clause-script
visit_store-requires-clause-script c =
    let p = c.args.prepared.now.program in
    λ _. ap (rule (context_of p)) (c.in-Some.ensures.tree ∙ ap (evaluated_tree p.nodes.items) c.in-Assign.is)

pub visit_operands-requires-clause-tree : goal.visit_operands-requires-clause-tree
visit_operands-requires-clause-tree c =
    let p = c.args.prepared.now.program in
    c.in-Some.ensures.tree ∙ ap (evaluated_tree p.nodes.items) c.in-Binary.is

pub call_usual-requires-clause-script : goal.call_usual-requires-clause-script
call_usual-requires-clause-script c =
    let p = c.args.prepared.now.program in
    let ns = p.nodes.items in
    let x = c.in-Call in
    ap (rule (context_of p)) (c.in-Some.ensures.tree ∙ ap (evaluated_tree ns) x.is) ∙ sym (call_is ns (context_of p) x.name x.first x.count x.site)
