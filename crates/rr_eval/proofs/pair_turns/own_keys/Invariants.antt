-- The keys so far stand before those that are still to be read.
use Rattle.std.proofs.Common.{◌≡◌, drop, length, Option}
use Rattle.std.specs.List.{All}
use Rattle.rr_space.specs.Tables.{Below}
use Rattle.rr_builtin.specs.Elements.{names_of_hash}
use Rattle.rr_eval.specs.Iterating.{own_values}
use Rattle.rr_eval.specs.Within.{reach, IsReached}
use Rattle.rr_eval.proofs.Spreads.{behind}
use Rattle.rr_eval.proofs.pair_turns.own_keys.Given as goal

abbrev pub invariant-loop-pair : goal.invariant-loop-pair
invariant-loop-pair l = record {
  same : own_values l.space (names_of_hash l.space l.hash) ≡ behind l.keys.items (own_values l.space (drop l.pair (names_of_hash l.space l.hash)));
  reached : (clusters : Option Below) → All (IsReached (reach (length l.space.slots) clusters)) l.keys.items;
}
