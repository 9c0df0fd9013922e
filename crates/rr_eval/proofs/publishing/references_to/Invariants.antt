-- References to the first slots.
use Rattle.std.proofs.Common.{◌≡◌, map, take}
use Rattle.rr_space.specs.declared.refer.Ref.TheVariants.{Local}
use Rattle.rr_eval.proofs.publishing.references_to.Given as goal

abbrev pub invariant-loop-place : goal.invariant-loop-place
invariant-loop-place l = l.slots.items ≡ map Local (take l.place l.places)
