-- `self` is reached.
use Rattle.std.proofs.Common.{length}
use Rattle.rr_eval.specs.Views.{view_of}
use Rattle.rr_eval.specs.Within.{reach}
use Rattle.rr_eval.proofs.Supers.{running_reached}
use Rattle.rr_eval.proofs.engine.Engine.send_super.Goals as goal

pub returns-in-Some-clause-within : goal.returns-in-Some-clause-within
returns-in-Some-clause-within c clusters h last =
    let k = reach (length c.args.space.now.slots) clusters in
    c.run_method.ensures.within clusters h (running_reached k (view_of c.args.self.now) c.running-running.result c.running-running.ensures h, tt) last

pub returns-in-Some-clause-asks : goal.returns-in-Some-clause-asks
returns-in-Some-clause-asks c k h last = c.run_method.ensures.asks k h (running_reached k (view_of c.args.self.now) c.running-running.result c.running-running.ensures h, tt) last

pub returns-in-None-clause-within : goal.returns-in-None-clause-within
returns-in-None-clause-within c clusters h last = c.send_above.ensures.within (reach (length c.args.space.now.slots) clusters) h

pub returns-in-None-clause-asks : goal.returns-in-None-clause-asks
returns-in-None-clause-asks c k h last = c.send_above.ensures.asks k h (running_reached k (view_of c.args.self.now) c.running-running.result c.running-running.ensures h) last
