-- A call has these arguments.
use Rattle.std.proofs.Common.{sym, ap, ◌∙◌}
use Rattle.rr_eval.specs.Nodes.{evaluated_tree}
use Rattle.rr_eval.specs.Rules.{rule}
use Rattle.rr_eval.specs.Turns.{context_of, after_script}
use Rattle.rr_eval.specs.Views.{view_of}
use Rattle.rr_eval.proofs.Lists.{send_is}
use Rattle.rr_eval.proofs.engine.Engine.open_sent.Goals as goal

pub returns-in-Send-clause-goes : goal.returns-in-Send-clause-goes
returns-in-Send-clause-goes c = λ p t h n.
    let ns = p.nodes.items in
    let script = ap (λ x. rule (context_of p) (evaluated_tree ns x)) c.in-Send.is ∙ sym (send_is ns (context_of p) c.in-Send.receiver c.in-Send.name c.in-Send.first c.in-Send.count c.in-Send.site) in
    ap (λ r. after_script p (view_of c.args.self.now) t r h n) script ∙ c.open_receiver.ensures.goes p t h n
