-- `true` and `false` are within every reach.
use Rattle.std.specs.Prelude.{Bool, true, false}
use Rattle.rr_space.specs.Parts.{truth_ref}
use Rattle.rr_eval.specs.Within.{Reach, IsReached}

pub truth_reached : (k : Reach) (b : Bool) → IsReached k (truth_ref b)
truth_reached k true = tt
truth_reached k false = tt
