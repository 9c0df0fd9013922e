-- The frame of an assignment to an instance variable asks.
use Rattle.std.proofs.Common.{◌∙◌, ap, length}
use Rattle.rr_eval.specs.declared.problem.Answer.TheVariants.{Gave}
use Rattle.rr_eval.specs.Turns.{after_answer}
use Rattle.rr_eval.specs.Views.{view_of}
use Rattle.rr_eval.specs.Within.{reach}
use Rattle.rr_eval.proofs.engine.Engine.resume_any.Goals as goal

pub returns-in-SetField-clause-goes : goal.returns-in-SetField-clause-goes
returns-in-SetField-clause-goes c h =
    let p = c.args.prepared.now.program in
    let t = c.args.space.now in
    ap (λ f. after_answer p (view_of c.args.self.now) t f (Gave c.args.value) h c.args.self.now.left) c.in-SetField.is ∙ c.ask_field.ensures.asks p t h c.args.self.now.left

pub returns-in-SetField-clause-asks : goal.returns-in-SetField-clause-asks
returns-in-SetField-clause-asks c clusters h frame value = c.ask_field.ensures.within (reach (length c.args.space.now.slots) clusters) h value
