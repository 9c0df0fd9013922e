-- What is asked is reached.
use Rattle.std.proofs.Common.{◌∷◌, []}
use Rattle.rr_space.specs.declared.refer.Ref.TheVariants.{Nil}
use Rattle.rr_eval.specs.declared.frame.Control.TheVariants.{Give}
use Rattle.rr_eval.specs.declared.problem.Answer.TheVariants.{Gave}
use Rattle.rr_eval.specs.Views.{view_of}
use Rattle.rr_eval.specs.Within.{IsReached}
use Rattle.rr_eval.proofs.Holding.{all_cons, all_nil, held_reached, with_cleared}
use Rattle.rr_eval.proofs.engine.Engine.initialize_above.Goals as goal

pub returns-in-Ok-Some-clause-asks : goal.returns-in-Ok-Some-clause-asks
returns-in-Ok-Some-clause-asks c k h receiver last =
    let message = c.in-Ok-Some.message in
    let value = rw c.in-Ok-Some.field-0-is at (c.in-Ok-Some.ensures.within k (c.standing.ensures.within k (held_reached k (view_of c.args.self.now) h)) last) in
    all_cons (IsReached k) c.args.receiver (message ∷ []) receiver (all_cons (IsReached k) message [] value (all_nil (IsReached k)))

pub returns-in-Ok-None-clause-within : goal.returns-in-Ok-None-clause-within
returns-in-Ok-None-clause-within c k h = with_cleared k (view_of c.args.self.now) c.args.frame c.clear-in-Ok-None.new.held.items (Give (Gave Nil)) c.clear-in-Ok-None.ensures h tt
