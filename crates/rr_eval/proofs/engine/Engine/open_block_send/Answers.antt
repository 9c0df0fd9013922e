-- The frame that waits holds nothing.
use Rattle.rr_eval.specs.Views.{view_of}
use Rattle.rr_eval.proofs.Holding.{with_frames}
use Rattle.rr_eval.proofs.engine.Engine.open_block_send.Goals as goal

pub returns-clause-within : goal.returns-clause-within
returns-clause-within c k h = c.enter_above.ensures.within k (with_frames k (view_of c.args.self.now) _ c.reserve.ensures.items h) tt
