-- Each call by its rule.
use Rattle.std.proofs.Common.{◌∙◌, ap, sym}
use Rattle.rr_tree.specs.Tree.{tree_at}
use Rattle.rr_eval.specs.declared.call.Callee.TheVariants.{Index, Append}
use Rattle.rr_eval.specs.declared.call.Target.TheVariants.{Call}
use Rattle.rr_eval.specs.Nodes.{evaluated_tree}
use Rattle.rr_eval.specs.Rules.{rule, finish}
use Rattle.rr_eval.specs.Turns.{context_of}
use Rattle.rr_eval.proofs.Lists.{send_is}
use Rattle.rr_eval.proofs.QuickRequests.{takes_values}
use Rattle.rr_eval.proofs.engine.Engine.ask_call.Goals as goal

pub ask_name-requires-clause-script : goal.ask_name-requires-clause-script
ask_name-requires-clause-script c =
    let ns = c.args.prepared.now.program.nodes.items in
    let own = context_of c.args.prepared.now.program in
    let call = c.in-Some-Send in
    ap (rule own) (call.ensures.tree ∙ ap (evaluated_tree ns) call.field-0-is)
    ∙ sym (send_is ns own call.receiver call.name call.first call.count call.field-0-4)

pub ask_pair-requires-clause-script : goal.ask_pair-requires-clause-script
ask_pair-requires-clause-script c =
    let p = c.args.prepared.now.program in
    let ns = p.nodes.items in
    let own = context_of p in
    let call = c.in-Some-Index in
    takes_values p (rule own (tree_at ns c.args.here)) (tree_at ns call.a) (tree_at ns call.b) (finish own (Call Index))
    (ap (rule own) (call.ensures.tree ∙ ap (evaluated_tree ns) call.field-0-is))

pub ask_pair-requires-in-Some-Append-clause-script : goal.ask_pair-requires-in-Some-Append-clause-script
ask_pair-requires-in-Some-Append-clause-script c =
    let p = c.args.prepared.now.program in
    let ns = p.nodes.items in
    let own = context_of p in
    let call = c.in-Some-Append in
    takes_values p (rule own (tree_at ns c.args.here)) (tree_at ns call.a) (tree_at ns call.b) (finish own (Call Append))
    (ap (rule own) (call.ensures.tree ∙ ap (evaluated_tree ns) call.field-0-is))
