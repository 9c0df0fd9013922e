-- What is raised is reached.
use Rattle.rr_eval.specs.Views.{view_of}
use Rattle.rr_eval.proofs.Holding.{held_reached, with_cleared}
use Rattle.rr_eval.proofs.engine.Engine.raise_values.Goals as goal

pub returns-clause-within : goal.returns-clause-within
returns-clause-within c k h value =
    let m = view_of c.args.self.now in
    with_cleared k m c.args.frame _ c.raised_by-control.result c.clear.ensures h (c.raised_by-control.ensures.within k (c.standing.ensures.within k (held_reached k m h)) value)
