-- The variable has the value.
use Rattle.rr_eval.specs.declared.frame.Control.TheVariants.{Give}
use Rattle.rr_eval.specs.declared.problem.Answer.TheVariants.{Gave}
use Rattle.rr_eval.specs.Views.{view_of}
use Rattle.rr_eval.proofs.Holding.{with_variable, without_values}
use Rattle.rr_eval.proofs.engine.Engine.put_variable.Goals as goal

pub returns-clause-within : goal.returns-clause-within
returns-clause-within c k h value =
    let m = view_of c.args.self.now in
    let held = c.clear.new.held.items in
    with_variable k (record m { held = held }) c.write.new.self c.args.variable c.args.value (Give (Gave c.args.value)) c.write.ensures.frames (without_values k m c.args.frame held c.clear.ensures h) value value
