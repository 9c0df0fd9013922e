-- The test is the relation.
use Rattle.std.proofs.Common.{ap, ◌∙◌}
use Rattle.rr_space.specs.Parts.{truth_ref}
use Rattle.rr_eval.specs.declared.problem.Response.TheVariants.{Gives}
use Rattle.rr_eval.proofs.Shares.{shareable_is}
use Rattle.rr_eval.proofs.sharing.tell_shareable.Goals as goal

pub returns-clause-is : goal.returns-clause-is
returns-clause-is c = ap Gives c.truth.ensures ∙ ap (λ b. Gives (truth_ref b)) (shareable_is c.args.space.now c.len-slots.ensures.well.sound c.args.value c.in_ok-yes.yes c.in_ok-yes.ensures.exact)
