use Rattle.std.proofs.Common.{refl, ap, ◌∙◌, slice_set}
use Rattle.rr_space.specs.Views.{IsFirstAt, field_names}
use Rattle.rr_space.proofs.Fielding.{first_same}
use Rattle.rr_space.proofs.fields.set_field.Goals as goal

pub returns-in-Some-clause-present : goal.returns-in-Some-clause-present
returns-in-Some-clause-present c = λ i w.
    let fs = c.args.fields.now.items in
    let found : IsFirstAt (field_names fs) c.args.name.0 c.in-Some.place = rw c.deref.ensures.value at c.in-Some.ensures in
    (refl, c.replace_at.ensures.items ∙ ap (λ k. slice_set fs k (c.args.name, c.args.value)) (first_same (field_names fs) c.args.name.0 c.in-Some.place i found w))
