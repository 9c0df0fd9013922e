use Rattle.std.proofs.Common.{ap, ◌∙◌}
use Rattle.rr_space.specs.Views.{field_number}
use Rattle.rr_space.specs.declared.refer.Raised.{Raised}
use Rattle.rr_builtin.proofs.NoFields.{none_twice}
use Rattle.rr_builtin.proofs.news.exception.Goals as goal

pub returns-clause-fields : goal.returns-clause-fields
returns-clause-fields c = none_twice field_number _ (ap (λ (r : Raised). r.fields.items) c.in_ok-new.ensures.ok ∙ c.new.ensures.items)
