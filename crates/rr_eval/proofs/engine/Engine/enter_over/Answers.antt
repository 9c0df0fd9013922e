-- The frame is reached.
use Rattle.rr_eval.specs.declared.frame.Control.TheVariants.{Enter}
use Rattle.rr_eval.specs.Views.{view_of}
use Rattle.rr_eval.proofs.Spots.{frame_reached}
use Rattle.rr_eval.proofs.engine.Engine.enter_over.Goals as goal

pub returns-clause-within : goal.returns-clause-within
returns-clause-within c k h frame = frame_reached k (view_of c.args.self.now) c.args.frame _ (Enter c.args.part) c.push_within.ensures h frame tt
