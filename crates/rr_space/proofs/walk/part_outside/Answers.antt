use Rattle.std.proofs.Common.{ap, ◌∙◌, Some}
use Rattle.rr_space.specs.Labels.{label_of, labelled_value}
use Rattle.rr_space.specs.Graph.{Value}
use Rattle.rr_space.proofs.Listing.{outer_part}
use Rattle.rr_space.proofs.walk.part_outside.Goals as goal

pub returns : goal.returns
returns c = record {
  part =
      ap (λ (x : Value). Some (label_of c.in_ok-label.label, x)) c.outward.ensures.is
      ∙ outer_part c.args.cluster.now c.args.place c.args.k (Some (labelled_value (c.in_ok-label.label, c.in_ok-label.value))) c.in_ok-label.ensures.part;
  within = c.outward.ensures.within c.in_ok-label.ensures.within;
  below = c.outward.ensures.below c.in_ok-label.ensures.below;
}
