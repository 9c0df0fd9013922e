-- The variable of the clause has the exception.
use Rattle.rr_eval.specs.Views.{view_of}
use Rattle.rr_eval.proofs.Holding.{caught_variable}
use Rattle.rr_eval.proofs.engine.Engine.catch.Goals as goal

pub returns-in-Some-clause-within : goal.returns-in-Some-clause-within
returns-in-Some-clause-within c k h value = caught_variable k (view_of c.args.self.now) c.write.new.self c.in-Some.variable c.args.exception c.write.ensures.frames h value
