use Rattle.std.proofs.Common.{◌≡◌}
use Rattle.rr_space.specs.Views.{field_behind}
use Rattle.rr_space.proofs.Shifting.{map_first}
use Rattle.rr_space.proofs.behind.fields_behind.Given as goal

abbrev pub invariant-loop-k : goal.invariant-loop-k
invariant-loop-k l = l.fields.items ≡ map_first (field_behind l.count) l.k l.fn.fields.items
