-- The first of the values is reached.
use Rattle.std.proofs.Common.{length, []}
use Rattle.rr_eval.specs.Views.{view_of}
use Rattle.rr_eval.specs.Within.{reach, IsReached}
use Rattle.rr_eval.proofs.Holding.{all_cons, all_nil, held_reached}
use Rattle.rr_eval.proofs.engine.Engine.send_block.Goals as goal

pub returns-in_default-clause-within : goal.returns-in_default-clause-within
returns-in_default-clause-within c clusters h value =
    let k = reach (length c.args.space.now.slots) clusters in
    let one = all_cons (IsReached k) c.args.value [] value (all_nil (IsReached k)) in
    c.send.ensures.within clusters h (c.first_value-receiver.ensures.within k (c.standing.ensures.within k (held_reached k (view_of c.args.self.now) h)) one) one

pub returns-in_default-clause-asks : goal.returns-in_default-clause-asks
returns-in_default-clause-asks c k h value =
    let one = all_cons (IsReached k) c.args.value [] value (all_nil (IsReached k)) in
    c.send.ensures.asks k h (c.first_value-receiver.ensures.within k (c.standing.ensures.within k (held_reached k (view_of c.args.self.now) h)) one) one
