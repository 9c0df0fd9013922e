-- What stands so far comes before the rest.
use Rattle.std.proofs.Common.{◌≡◌, ◌++◌, length}
use Rattle.std.specs.List.{All}
use Rattle.rr_eval.specs.Leaves.{between, behind_each}
use Rattle.rr_eval.specs.Within.{Reach, IsReached}
use Rattle.rr_eval.proofs.leaves.between.Given as goal

abbrev pub invariant-loop-rest : goal.invariant-loop-rest
invariant-loop-rest l = record {
  same : between l.separator l.values ≡ l.all.items ++ behind_each l.separator l.rest;
  rest : (k : Reach) → All (IsReached k) l.values → All (IsReached k) l.rest;
  reached : (k : Reach) → IsReached k l.separator → All (IsReached k) l.values → All (IsReached k) l.all.items;
}

abbrev pub decreases-loop-rest : goal.decreases-loop-rest
decreases-loop-rest l = length l.rest
