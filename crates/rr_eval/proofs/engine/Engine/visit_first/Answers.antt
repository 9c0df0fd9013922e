-- The rule of a node that evaluates a part first is what its frame waits for.
use Rattle.std.proofs.Common.{length}
use Rattle.rr_eval.specs.Within.{reach}
use Rattle.rr_eval.proofs.engine.Engine.visit_first.Goals as goal

pub visit_under-requires-clause-script : goal.visit_under-requires-clause-script
visit_under-requires-clause-script c = λ w. c.in-Some.ensures.script c.args.prepared.now.program w c.requires.tree

pub returns-in-Some-clause-within : goal.returns-in-Some-clause-within
returns-in-Some-clause-within c clusters h =
    let k = reach (length c.args.space.now.slots) clusters in
    c.visit_under.ensures.within clusters h (c.in-Some.ensures.within k)
