use Rattle.std.proofs.Common.{◌≡◌}
use Rattle.rr_space.specs.Tables.{IsRestKept}
use Rattle.rr_share.specs.Freezing.{FrozeFirst}
use Rattle.rr_share.proofs.freezing.freeze_all.Given as goal

abbrev pub invariant-loop-place : goal.invariant-loop-place
invariant-loop-place l = record {
  slots : FrozeFirst l.place l.found l.initial.space.slots l.space.slots;
  below : l.space.below ≡ l.initial.space.below;
  keys : l.space.keys ≡ l.initial.space.keys;
  rest : IsRestKept l.initial.space l.space;
}
