use Rattle.std.proofs.Common.{arith}
use Rattle.rr_parser.proofs.Numbers.{symbols_more}
use Rattle.rr_parser.proofs.names.symbols.Goals as goal

pub loop-i-preserved : goal.loop-i-preserved
loop-i-preserved c = symbols_more c.args.names.now.keys c.loop-i.i _ _ _ _ (omega (arith, c.loop-i-test.true, c.len-i-end.ensures.len)) c.loop-i.invariant c.in_ok-push.ensures.items c.in_ok-from_slice.ensures.items c.index-name.ensures
