-- What is held stays within.
use Rattle.std.proofs.Common.{length}
use Rattle.rr_eval.specs.Within.{reach}
use Rattle.rr_eval.proofs.engine.Engine.operate_left.Goals as goal

pub returns-then-not-operate_quick-clause-within : goal.returns-then-not-operate_quick-clause-within
returns-then-not-operate_quick-clause-within c clusters h value =
    let k = reach (length c.args.space.now.slots) clusters in
    c.enter_above.ensures.within k (c.operate_quick.ensures.within clusters h) value

pub returns-else-not-operate_quick-clause-within : goal.returns-else-not-operate_quick-clause-within
returns-else-not-operate_quick-clause-within c clusters h value = c.operate_quick.ensures.within clusters h
