use Rattle.rr_space.specs.Views.{field_number}
use Rattle.rr_builtin.proofs.NoFields.{none_twice}
use Rattle.rr_builtin.proofs.news.without_fields.Goals as goal

pub returns-clause-fields : goal.returns-clause-fields
returns-clause-fields c = none_twice field_number _ c.new.ensures.items
