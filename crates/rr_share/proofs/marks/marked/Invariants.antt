use Rattle.std.proofs.Common.{◌-◌, length, Contains}
use Rattle.rr_space.specs.Tables.{space_graph}
use Rattle.rr_share.specs.Search.{Searched, IsSolidAt, LeadsOn}
use Rattle.rr_share.specs.Marks.{IsMarkable}
use Rattle.rr_share.proofs.marks.marked.Given as goal

abbrev pub invariant-loop-cursor : goal.invariant-loop-cursor
invariant-loop-cursor l = Searched (λ m. Contains l.found m × (IsSolidAt l.space.slots m → ⊥)) (λ n m. Contains l.found m × LeadsOn (space_graph l.space) m n) (IsMarkable l.space l.found) l.cursor l.marked

abbrev pub decreases-loop-cursor : goal.decreases-loop-cursor
decreases-loop-cursor l = length l.found - l.cursor
