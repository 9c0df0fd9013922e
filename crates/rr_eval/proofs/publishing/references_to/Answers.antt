-- One reference more.
use Rattle.std.proofs.Common.{◌∙◌, ◌++◌, ◌∷◌, [], ap, sym}
use Rattle.rr_space.specs.declared.refer.Ref.TheVariants.{Local}
use Rattle.rr_eval.proofs.Noted.{took}
use Rattle.rr_eval.proofs.publishing.references_to.Goals as goal

pub loop-place-preserved : goal.loop-place-preserved
loop-place-preserved c = c.in_ok-push.ensures.items ∙ ap (λ rs. rs ++ Local c.at.result ∷ []) c.loop-place.invariant ∙ sym (took c.args.places.now c.loop-place.place c.at.result c.at.ensures)
