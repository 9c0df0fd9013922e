use Rattle.std.proofs.Common.{◌≡◌, ◌++◌, drop, map}
use Rattle.std.specs.List.{All, zip}
use Rattle.rr_space.specs.Labels.{triples_at}
use Rattle.rr_text.specs.Comparing.{values_in}
use Rattle.rr_text.specs.Beside.{values_of, IsKnownBeside}
use Rattle.rr_text.proofs.beside.rows.Given as goal

abbrev pub invariant-loop-place : goal.invariant-loop-place
invariant-loop-place l = record {
  sides : zip (values_in (triples_at l.space l.fn.left)) (values_in (triples_at l.space l.fn.right))
      ≡ map values_of l.sides.items ++ zip (drop l.place (values_in (triples_at l.space l.fn.left))) (drop l.place (values_in (triples_at l.space l.fn.right)));
  known : All (IsKnownBeside l.space l.fn.left l.fn.right) l.sides.items;
}
