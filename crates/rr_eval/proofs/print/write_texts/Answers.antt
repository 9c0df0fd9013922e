-- Each value leads to no cluster.
use Rattle.rr_eval.specs.Published.{published}
use Rattle.std.proofs.Common.{sym, subst}
use Rattle.rr_text.specs.Reads.{IsAmong}
use Rattle.rr_eval.proofs.print.write_texts.Goals as goal

pub write_value-requires-clause-among : goal.write_value-requires-clause-among
write_value-requires-clause-among c = subst (IsAmong (published c.args.store.now)) (sym c.value-item.is) (c.requires.among c.loop-value.value-index c.value-item.result c.loop-value-test.true)
