use Rattle.std.proofs.Common.{map, ap, ◌∙◌, sym, subst}
use Rattle.std.specs.Prelude.{nat_eq}
use Rattle.std.specs.List.{IsDistinct}
use Rattle.rr_space.specs.Views.{field_number}
use Rattle.rr_space.specs.declared.refer.Raised.{Raised}
use Rattle.rr_world.proofs.ractor.bare_exception.Goals as goal

pub returns-clause-fields : goal.returns-clause-fields
unfolding IsDistinct
returns-clause-fields c = subst (λ fs. IsDistinct nat_eq (map field_number fs)) (sym (ap (λ (r : Raised). r.fields.items) c.in_ok-new.ensures.ok ∙ c.new.ensures.items)) tt
