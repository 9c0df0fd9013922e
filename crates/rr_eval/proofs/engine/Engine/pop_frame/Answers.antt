-- What is given is within.
use Rattle.rr_eval.specs.Views.{view_of}
use Rattle.rr_eval.proofs.Holding.{given_within}
use Rattle.rr_eval.proofs.engine.Engine.pop_frame.Goals as goal

pub returns-clause-given : goal.returns-clause-given
returns-clause-given c k h = given_within k (view_of c.args.self.now) c.args.answer c.requires.control h
