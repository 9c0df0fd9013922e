-- `self` is reached.
use Rattle.std.proofs.Common.{length}
use Rattle.rr_eval.specs.Views.{view_of}
use Rattle.rr_eval.specs.Within.{reach}
use Rattle.rr_eval.proofs.Holding.{calls_reached}
use Rattle.rr_eval.proofs.engine.Engine.send_itself.Goals as goal

pub returns-clause-within : goal.returns-clause-within
returns-clause-within c clusters h last =
    let k = reach (length c.args.space.now.slots) clusters in
    c.send.ensures.within clusters h (c.itself-receiver.ensures.within k (calls_reached k (view_of c.args.self.now) h)) last

pub returns-clause-asks : goal.returns-clause-asks
returns-clause-asks c k h last = c.send.ensures.asks k h (c.itself-receiver.ensures.within k (calls_reached k (view_of c.args.self.now) h)) last
