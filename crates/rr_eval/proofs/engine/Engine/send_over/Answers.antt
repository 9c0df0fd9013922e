-- The frame and the call are reached.
use Rattle.rr_eval.specs.declared.frame.Control.TheVariants.{Send}
use Rattle.rr_eval.specs.Views.{view_of}
use Rattle.rr_eval.proofs.Spots.{frame_reached}
use Rattle.rr_eval.proofs.engine.Engine.send_over.Goals as goal

pub returns-clause-within : goal.returns-clause-within
returns-clause-within c k h frame receiver argument = frame_reached k (view_of c.args.self.now) c.args.frame _ (Send c.args.callee c.args.receiver c.args.argument) c.push_within.ensures h frame (receiver, argument)
