-- The values of a call are held.
use Rattle.rr_eval.specs.Views.{view_of}
use Rattle.rr_eval.proofs.Holding.{held_reached}
use Rattle.rr_eval.proofs.engine.Engine.ask_method.Goals as goal

pub returns-clause-asks : goal.returns-clause-asks
returns-clause-asks c k h receiver last = c.in_ok-call.ensures.within k receiver (c.standing-stand.ensures.within k (held_reached k (view_of c.args.self.now) h)) last
