-- Each call of a receiver by its rule.
use Rattle.std.proofs.Common.{◌∙◌, ap, sym}
use Rattle.rr_eval.specs.Nodes.{evaluated_tree}
use Rattle.rr_eval.specs.Rules.{rule}
use Rattle.rr_eval.specs.Turns.{context_of}
use Rattle.rr_eval.proofs.Lists.{send_is}
use Rattle.rr_eval.proofs.engine.Engine.visit_send.Goals as goal

pub call_sent-requires-clause-script : goal.call_sent-requires-clause-script
call_sent-requires-clause-script c =
    let ns = c.args.prepared.now.program.nodes.items in
    let own = context_of c.args.prepared.now.program in
    let call = c.in-Send in
    ap (rule own) (c.requires.tree ∙ ap (evaluated_tree ns) call.is)
    ∙ sym (send_is ns own call.receiver call.name call.first call.count call.site)
