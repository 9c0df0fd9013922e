-- What is held stays within.
use Rattle.std.proofs.Common.{length}
use Rattle.rr_eval.specs.Views.{view_of}
use Rattle.rr_eval.specs.Within.{reach}
use Rattle.rr_eval.proofs.Holding.{held_reached}
use Rattle.rr_eval.proofs.engine.Engine.send.Goals as goal

pub returns-in-Some-clause-within : goal.returns-in-Some-clause-within
returns-in-Some-clause-within c clusters h receiver last =
    let k = reach (length c.args.space.now.slots) clusters in
    c.run_method.ensures.within clusters h (c.way_of-way.ensures.within k receiver (c.standing-stand.ensures.within k (held_reached k (view_of c.args.self.now) h)) last) last

pub returns-in-Some-clause-asks : goal.returns-in-Some-clause-asks
returns-in-Some-clause-asks c k h receiver last = c.run_method.ensures.asks k h (c.way_of-way.ensures.within k receiver (c.standing-stand.ensures.within k (held_reached k (view_of c.args.self.now) h)) last) last
