-- Nil is no reference.
use Rattle.rr_eval.specs.declared.frame.Control.TheVariants.{Give}
use Rattle.rr_eval.specs.declared.problem.Answer.TheVariants.{Gave}
use Rattle.rr_space.specs.declared.refer.Ref.TheVariants.{Nil}
use Rattle.rr_eval.specs.Views.{view_of}
use Rattle.rr_eval.proofs.Holding.{calls_reached, with_calls}
use Rattle.rr_eval.proofs.engine.Engine.end_straight.Goals as goal

pub returns-in-Over-clause-within : goal.returns-in-Over-clause-within
returns-in-Over-clause-within c k h =
    let m = view_of c.args.self.now in
    with_calls k m m.calls (Give (Gave Nil)) h (calls_reached k m h) tt
