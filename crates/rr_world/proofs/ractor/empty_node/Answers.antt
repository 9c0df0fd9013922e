use Rattle.std.proofs.Common.{map, sym, subst}
use Rattle.std.specs.Prelude.{nat_eq}
use Rattle.std.specs.List.{IsDistinct}
use Rattle.rr_space.specs.Views.{field_number}
use Rattle.rr_world.proofs.ractor.empty_node.Goals as goal

pub returns-in-Object-clause-fields : goal.returns-in-Object-clause-fields
unfolding IsDistinct
returns-in-Object-clause-fields c = subst (λ fs. IsDistinct nat_eq (map field_number fs)) (sym c.new-in-Object.ensures.items) tt
