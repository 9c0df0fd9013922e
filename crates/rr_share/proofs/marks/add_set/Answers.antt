use Rattle.std.proofs.Common.{arith}
use Rattle.rr_share.proofs.Places.{firsts_add, firsts_all}
use Rattle.rr_share.proofs.marks.add_set.Goals as goal

pub loop-place-preserved : goal.loop-place-preserved
loop-place-preserved c = firsts_add c.args.more.now c.loop-place.place c.at.result c.args.set.now c.loop-place.set c.add.new.self c.loop-place.invariant c.at.ensures c.in_ok-add.ensures.added

pub returns-clause-added : goal.returns-clause-added
returns-clause-added c = firsts_all c.args.more.now c.loop-place.place c.args.set.now c.loop-place.set (omega (arith, c.len-place-end.ensures.len, c.loop-place-test.false)) c.loop-place.invariant
