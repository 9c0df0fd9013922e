-- The receiver is evaluated, and the call is begun.
use Rattle.std.proofs.Common.{◌∙◌, ◌+◌, ◌∷◌, [], ap, sym, subst}
use Rattle.rr_tree.specs.Tree.{tree_at}
use Rattle.rr_eval.specs.Frames.{runs_in}
use Rattle.rr_eval.specs.Nodes.{evaluated_tree, IsEvaluated, IsRareNode}
use Rattle.rr_eval.specs.Rules.{rule, on_value, sent_block}
use Rattle.rr_eval.specs.Turns.{context_of, code_of, state_of}
use Rattle.rr_eval.specs.Views.{view_of}
use Rattle.rr_eval.proofs.QuickParts.{part_comes}
use Rattle.rr_eval.proofs.engine.Engine.visit_block.Goals as goal

pub visit_rare-requires-clause-rare : goal.visit_rare-requires-clause-rare
visit_rare-requires-clause-rare c = subst IsRareNode (sym c.requires.node) tt

pub visit_rare-requires-clause-evaluated : goal.visit_rare-requires-clause-evaluated
visit_rare-requires-clause-evaluated c = subst IsEvaluated (sym c.requires.node) tt

pub begin_with_block-requires-clause-comes : goal.begin_with_block-requires-clause-comes
begin_with_block-requires-clause-comes c = λ h n.
    let p = c.args.prepared.now.program in
    let ns = p.nodes.items in
    let m = view_of c.args.self.now in
    let t = c.args.space.now in
    let own = context_of p in
    let b = tree_at ns c.args.block in
    let found = c.in-Some-quick_before.found in
    ap (λ x. runs_in (code_of p h.world) (rule own x) (state_of p m t h) (found.steps + n)) (c.requires.tree ∙ ap (evaluated_tree ns) c.requires.node)
    ∙ ap (λ r. runs_in (code_of p h.world) r (state_of p m t h) (found.steps + n)) (c.in-Some.ensures own b)
    ∙ part_comes p m t (tree_at ns c.in-Some.receiver) found.steps found.value (on_value (λ v. sent_block own c.in-Some.name b (v ∷ []))) c.in-Some-quick_before.ensures.takes h n
