-- The keys so far have no turn.
use Rattle.std.proofs.Common.{◌≡◌, ◌-◌, drop, length}
use Rattle.rr_eval.specs.Iterating.{pairs_ahead}
use Rattle.rr_eval.proofs.pair_turns.pairs_ahead.Given as goal

abbrev pub invariant-loop-place : goal.invariant-loop-place
invariant-loop-place l = pairs_ahead l.space l.hash l.first (drop l.first l.stand) ≡ pairs_ahead l.space l.hash l.place (drop l.place l.stand)

abbrev pub decreases-loop-place : goal.decreases-loop-place
decreases-loop-place l = length l.stand - l.place
