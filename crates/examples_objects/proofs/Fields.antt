-- One field alone.
use Rattle.std.proofs.Common.{nat_eq, [], ◌∷◌}
use Rattle.std.specs.List.{IsDistinct}

pub one_field : IsDistinct nat_eq (3 ∷ [])
unfolding IsDistinct
one_field = (tt, tt)
