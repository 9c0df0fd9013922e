use Rattle.std.proofs.Common.{◌≡◌, arith}
use Rattle.rr_share.proofs.Chains.{none_chained, none_linked}
use Rattle.rr_share.proofs.sources.Sources.new.Goals as goal

pub invariant_of-result : goal.invariant_of-result
invariant_of-result c = none_linked c.loop.last.items c.new.result.items c.loop.counter c.loop.invariant c.new.ensures.items

pub returns-clause-none : goal.returns-clause-none
returns-clause-none c =
    let e : c.loop.counter ≡ c.args.count = omega (arith, c.loop.auto.counter-end, c.loop-test.false) in
    none_chained c.loop.last.items c.new.result.items c.args.count c.loop.counter c.loop.invariant e c.new.ensures.items
