-- What the block is given is reached.
use Rattle.std.proofs.Common.{length, subst}
use Rattle.rr_eval.specs.Within.{reach, IsAheadReached}
use Rattle.rr_eval.proofs.engine.Engine.begin_element.Goals as goal

pub returns-in-Some-Another-clause-within : goal.returns-in-Some-Another-clause-within
returns-in-Some-Another-clause-within c clusters h =
    let k = reach (length c.args.space.now.slots) clusters in
    c.begin_round.ensures.within k h (subst (IsAheadReached k) c.in-Some-Another.field-0-is (c.in-Some-Another.ensures.within clusters))
