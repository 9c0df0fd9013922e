-- A choice that does not end the method leaves all as it is.
use Rattle.std.proofs.Common.{◌≡◌, ◌∙◌, Some, subst, sym}
use Rattle.rr_eval.specs.declared.engine.Engine.{Engine}
use Rattle.rr_eval.specs.Prepared.{callable_of}
use Rattle.rr_eval.specs.Rules.{own_method}
use Rattle.rr_eval.specs.Turns.{context_of, state_of}
use Rattle.rr_eval.specs.Views.{view_of}
use Rattle.rr_eval.proofs.engine.Engine.call_with.Goals as goal
use Rattle.rr_eval.proofs.engine.Engine.call_with.Goals.{in_default-via-in-None-1, in_default-via-in-Some-base+else-call_early}

pub call_one-requires-clause-method : goal.call_one-requires-clause-method
call_one-requires-clause-method c = λ h.
    let p = c.args.prepared.now.program in
    let same : c.in_default.self ≡ c.args.self.now = elim c.in_default.branch [
      | in_default-via-in-None-1 w ↦ w.self-is
      | in_default-via-in-Some-base+else-call_early w ↦ w.self-is ∙ w.call_early.ensures.same w.if-call_early.false
    ] in
    subst (λ (s : Engine). Some (callable_of p.nodes.items c.args.definition.now) ≡ own_method (context_of p) c.args.name.0 (state_of p (view_of s) c.args.space.now h).memory) (sym same) (c.requires.method h)
