-- A call with a block is evaluated by its rule.
use Rattle.std.proofs.Common.{length, sym, ap, ◌∙◌}
use Rattle.rr_tree.specs.Tree.{tree_at}
use Rattle.rr_eval.specs.Nodes.{evaluated_tree}
use Rattle.rr_eval.specs.Rules.{block_rule}
use Rattle.rr_eval.specs.Turns.{context_of, after_script}
use Rattle.rr_eval.specs.Views.{view_of}
use Rattle.rr_eval.specs.Within.{reach}
use Rattle.rr_eval.proofs.Invoking.{if_ok}
use Rattle.rr_eval.proofs.Lists.{block_call_is, block_send_is}
use Rattle.rr_eval.proofs.engine.Engine.open_block.Goals as goal

pub returns-in-Call-clause-goes : goal.returns-in-Call-clause-goes
returns-in-Call-clause-goes c =
    let p = c.args.prepared.now.program in
    let ns = p.nodes.items in
    let m = view_of c.args.self.now in
    let t = c.args.space.now in
    let b = tree_at ns c.args.block in
    let own = context_of p in
    if_ok c.open_block_call.result _ _
    (λ q goes h n.
    ap (λ x. after_script p m t (block_rule own x b) h n) (c.evaluated_node.ensures.tree ∙ ap (evaluated_tree ns) c.in-Call.is)
    ∙ ap (λ r. after_script p m t r h n) (sym (block_call_is ns own c.in-Call.name c.in-Call.first c.in-Call.count c.in-Call.site b))
    ∙ goes h n)
    c.open_block_call.ensures.goes

pub returns-in_ok-open_block_send-in-Send-clause-goes : goal.returns-in_ok-open_block_send-in-Send-clause-goes
returns-in_ok-open_block_send-in-Send-clause-goes c h n =
    let p = c.args.prepared.now.program in
    let ns = p.nodes.items in
    let m = view_of c.args.self.now in
    let t = c.args.space.now in
    let b = tree_at ns c.args.block in
    let own = context_of p in
    ap (λ x. after_script p m t (block_rule own x b) h n) (c.evaluated_node.ensures.tree ∙ ap (evaluated_tree ns) c.in-Send.is)
    ∙ ap (λ r. after_script p m t r h n) (sym (block_send_is ns own c.in-Send.receiver c.in-Send.name c.in-Send.first c.in-Send.count c.in-Send.site b))
    ∙ c.in_ok-open_block_send-in-Send.ensures.goes p t h n

pub returns-in_ok-open_block_send-in-Send-clause-within : goal.returns-in_ok-open_block_send-in-Send-clause-within
returns-in_ok-open_block_send-in-Send-clause-within c clusters h = c.open_block_send.ensures.within (reach (length c.args.space.now.slots) clusters) h

pub returns-in_err-open_block_send-in-Send-clause-within : goal.returns-in_err-open_block_send-in-Send-clause-within
returns-in_err-open_block_send-in-Send-clause-within c clusters h = c.open_block_send.ensures.within (reach (length c.args.space.now.slots) clusters) h
