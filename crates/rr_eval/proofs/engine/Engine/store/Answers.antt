-- What is held stays within.
use Rattle.rr_eval.specs.Views.{view_of}
use Rattle.rr_eval.specs.Within.{AreReached}
use Rattle.rr_eval.proofs.Holding.{with_variable}
use Rattle.rr_eval.proofs.engine.Engine.store.Goals as goal

pub returns-clause-within : goal.returns-clause-within
unfolding AreReached
returns-clause-within c k h value =
    let m = view_of c.args.self.now in
    c.give_top.ensures.within k (with_variable k m c.write.new.self c.args.variable c.args.value m.control c.write.ensures.frames h value h.control) value
