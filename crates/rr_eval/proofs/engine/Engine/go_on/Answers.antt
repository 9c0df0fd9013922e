-- What the block is given is reached.
use Rattle.std.proofs.Common.{length, subst}
use Rattle.rr_eval.specs.Views.{view_of}
use Rattle.rr_eval.specs.Within.{reach, IsAheadReached}
use Rattle.rr_eval.proofs.Holding.{held_reached}
use Rattle.rr_eval.proofs.engine.Engine.go_on.Goals as goal

pub returns-in-Ok-clause-within : goal.returns-in-Ok-clause-within
returns-in-Ok-clause-within c clusters h =
    let k = reach (length c.args.space.now.slots) clusters in
    let stand = c.standing-stand.ensures.within k (held_reached k (view_of c.args.self.now) h) in
    c.take_turn.ensures.within clusters h (subst (IsAheadReached k) c.in-Another.is (c.in_ok-ahead.ensures.within clusters stand))

pub returns-in-Err-clause-within : goal.returns-in-Err-clause-within
returns-in-Err-clause-within c clusters h =
    let k = reach (length c.args.space.now.slots) clusters in
    let stand = c.standing-stand.ensures.within k (held_reached k (view_of c.args.self.now) h) in
    c.take_turn.ensures.within clusters h (subst (IsAheadReached k) c.in-Another.is (c.in_ok-ahead.ensures.within clusters stand))

pub returns-in-Finished-clause-within : goal.returns-in-Finished-clause-within
returns-in-Finished-clause-within c clusters h = c.finish_iteration.ensures.within (reach (length c.args.space.now.slots) clusters) h

pub returns-in-Stopped-clause-within : goal.returns-in-Stopped-clause-within
returns-in-Stopped-clause-within c clusters h = c.refuse.ensures.within (reach (length c.args.space.now.slots) clusters) h
