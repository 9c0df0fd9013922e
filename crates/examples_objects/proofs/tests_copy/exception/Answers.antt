use Rattle.std.proofs.Common.{ap, ◌∙◌}
use Rattle.rr_space.specs.Views.{field_number}
use Rattle.rr_space.specs.declared.refer.Raised.{Raised}
use Rattle.examples_objects.proofs.NoFields.{none_twice}
use Rattle.examples_objects.proofs.tests_copy.exception.Goals as goal

pub alloc-requires-2-clause-fields : goal.alloc-requires-2-clause-fields
alloc-requires-2-clause-fields c = none_twice field_number _ (ap (λ (r : Raised). r.fields.items) c.in_ok-new.ensures.ok ∙ c.new.ensures.items)
