use Rattle.rr_space.specs.Views.{field_number}
use Rattle.examples_objects.proofs.NoFields.{none_twice}
use Rattle.examples_objects.proofs.writes.object.Goals as goal

pub alloc-requires-clause-fields : goal.alloc-requires-clause-fields
alloc-requires-clause-fields c = none_twice field_number _ c.new.ensures.items
