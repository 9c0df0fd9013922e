-- The receiver is `self`.
use Rattle.std.proofs.Common.{◌∙◌, ap, sym}
use Rattle.std.specs.Option.{option_map}
use Rattle.rr_eval.specs.declared.call.Callee.TheVariants.{Name}
use Rattle.rr_eval.specs.Dispatch.{method_for}
use Rattle.rr_eval.specs.Prepared.{callable_of}
use Rattle.rr_eval.specs.Turns.{context_of}
use Rattle.rr_eval.proofs.engine.Engine.call_usual.Goals as goal

pub call_with-requires-clause-method : goal.call_with-requires-clause-method
call_with-requires-clause-method c h =
    let p = c.args.prepared.now.program in
    sym (ap (option_map (callable_of p.nodes.items)) c.in-Some-Some.field-0-is)
    ∙ c.in-Some-Some.ensures.finds
    ∙ ap (λ v. method_for (context_of p) c.args.space.now v (Name c.args.name)) c.itself.ensures.value
