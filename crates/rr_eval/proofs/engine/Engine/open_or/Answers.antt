-- There is room for a frame.
use Rattle.rr_eval.specs.Views.{view_of}
use Rattle.rr_eval.proofs.Holding.{with_frames}
use Rattle.rr_eval.proofs.engine.Engine.open_or.Goals as goal

pub returns-clause-within : goal.returns-clause-within
returns-clause-within c k h = c.or_within.ensures.within k (with_frames k (view_of c.args.self.now) _ c.reserve.ensures.items h)
