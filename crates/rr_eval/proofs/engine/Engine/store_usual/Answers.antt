-- What is held stays within.
use Rattle.std.proofs.Common.{length}
use Rattle.rr_eval.specs.Views.{view_of}
use Rattle.rr_eval.specs.Within.{AreReached, reach}
use Rattle.rr_eval.proofs.Holding.{with_variable}
use Rattle.rr_eval.proofs.engine.Engine.store_usual.Goals as goal

pub returns-clause-within : goal.returns-clause-within
unfolding AreReached
returns-clause-within c clusters h value =
    let m = view_of c.args.self.now in
    let k = reach (length c.args.space.now.slots) clusters in
    c.end_usual.ensures.within clusters (with_variable k m c.write.new.self c.args.variable c.args.value m.control c.write.ensures.frames h value h.control) value
