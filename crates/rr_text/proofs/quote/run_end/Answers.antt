use Rattle.std.proofs.Common.{arith}
use Rattle.rr_text.proofs.Quoting.{run_more}
use Rattle.rr_text.proofs.quote.run_end.Goals as goal

pub loop-end-preserved : goal.loop-end-preserved
loop-end-preserved c = record {
  low = omega arith;
  high = omega arith;
  run = run_more c.args.bytes.now c.args.start c.loop-end.end (omega arith) (omega arith) (c.is_plain.ensures c.if-is_plain.true) c.loop-end.invariant.run;
}
