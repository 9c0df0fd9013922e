-- The array leads to no cluster itself.
use Rattle.std.proofs.Common.{refl, subst}
use Rattle.rr_space.specs.Views.{IsLedAlso}
use Rattle.rr_eval.specs.Responses.{registry_slot}
use Rattle.rr_eval.proofs.publishing.put_down.Goals as goal

pub returns-then-number-arity-clause-below : goal.returns-then-number-arity-clause-below
returns-then-number-arity-clause-below c =
    subst (λ b. IsLedAlso b registry_slot c.args.space.now.below c.write_element.new.self.below) c.requires.own (c.write_element.ensures.below registry_slot refl)
