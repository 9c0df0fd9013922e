-- The frame is reached.
use Rattle.std.proofs.Common.{subst, sym}
use Rattle.rr_eval.specs.Within.{IsControlReached}
use Rattle.rr_eval.specs.Views.{view_of}
use Rattle.rr_eval.proofs.Spots.{frame_reached}
use Rattle.rr_eval.proofs.engine.Engine.enter_above.Goals as goal

pub returns-clause-within : goal.returns-clause-within
returns-clause-within c k h frame = frame_reached k (view_of c.args.self.now) c.args.frame _ c.enter.new.self c.push_within.ensures h frame (subst (IsControlReached k) (sym c.enter.ensures) tt)
