-- The frame and the value are reached.
use Rattle.rr_eval.specs.declared.frame.Control.TheVariants.{Give}
use Rattle.rr_eval.specs.declared.problem.Answer.TheVariants.{Gave}
use Rattle.rr_eval.specs.Views.{view_of}
use Rattle.rr_eval.proofs.Spots.{frame_reached}
use Rattle.rr_eval.proofs.engine.Engine.give_above.Goals as goal

pub returns-clause-within : goal.returns-clause-within
returns-clause-within c k h frame value = frame_reached k (view_of c.args.self.now) c.args.frame _ (Give (Gave c.args.value)) c.push_within.ensures h frame value
