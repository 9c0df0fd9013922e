-- An assignment to several targets has these.
use Rattle.std.proofs.Common.{sym, ap, ◌∙◌}
use Rattle.rr_eval.specs.Nodes.{evaluated_tree}
use Rattle.rr_eval.specs.Rules.{rule}
use Rattle.rr_eval.specs.Turns.{context_of, after_script}
use Rattle.rr_eval.specs.Views.{view_of}
use Rattle.rr_eval.proofs.Targets.{several_is}
use Rattle.rr_eval.proofs.engine.Engine.open_assigned.Goals as goal

pub returns-in-MultipleAssign-clause-goes : goal.returns-in-MultipleAssign-clause-goes
returns-in-MultipleAssign-clause-goes c = λ t h n.
    let p = c.args.program.now in
    let ns = p.nodes.items in
    let script = ap (λ x. rule (context_of p) (evaluated_tree ns x)) c.in-MultipleAssign.is ∙ sym (several_is ns (context_of p) c.in-MultipleAssign.first c.in-MultipleAssign.count c.in-MultipleAssign.value) in
    ap (λ r. after_script p (view_of c.args.self.now) t r h n) script ∙ c.open_several.ensures.goes t h n
