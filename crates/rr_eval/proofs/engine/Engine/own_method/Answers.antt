-- The receiver is `self`.
use Rattle.std.proofs.Common.{◌∙◌, ap}
use Rattle.rr_eval.specs.declared.call.Callee.TheVariants.{Name}
use Rattle.rr_eval.specs.Dispatch.{method_for}
use Rattle.rr_eval.specs.Turns.{context_of}
use Rattle.rr_eval.proofs.engine.Engine.own_method.Goals as goal

pub returns : goal.returns
returns c h = c.method_for.ensures ∙ ap (λ v. method_for (context_of c.args.prepared.now.program) c.args.space.now v (Name c.args.name)) c.itself.ensures.value
