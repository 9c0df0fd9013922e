use Rattle.std.proofs.Common.{refl}
use Rattle.std.proofs.lemmas.Option.{slice_get_read}
use Rattle.rr_eval.proofs.engine.change_within.Goals as goal

pub returns : goal.returns
returns g c = (
  c.index_mut.result.now,
  c.change.new.arg2,
  slice_get_read c.args.items.now.items c.args.items.now.len c.args.index c.index_mut.result.now c.args.items.now.ok.0 c.requires.index c.index_mut.ensures.value,
  refl,
  record { shown = _; shows = refl; left = _; met = c.change.ensures; leaves = refl },
)
