use Rattle.std.proofs.Common.{nat_eq, List, map, sym, subst}
use Rattle.std.specs.List.{IsDistinct}
use Rattle.rr_base.specs.declared.name.Sym.{Sym}
use Rattle.rr_space.specs.Views.{field_number}
use Rattle.rr_space.specs.declared.refer.Ref.{Ref}
use Rattle.examples_objects.proofs.Fields.{one_field}
use Rattle.examples_objects.proofs.tests_copy.object_message.Goals as goal

pub alloc-requires-clause-fields : goal.alloc-requires-clause-fields
alloc-requires-clause-fields g c = subst (λ (fs : List (Sym × Ref)). IsDistinct nat_eq (map field_number fs)) (sym c.in_ok-fields.ensures.items) one_field
