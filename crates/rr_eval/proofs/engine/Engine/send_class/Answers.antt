-- An object is made, or nothing is done.
use Rattle.rr_eval.specs.Views.{view_of}
use Rattle.rr_eval.proofs.QuickSends.{usual_goes, usual_falls}
use Rattle.rr_eval.proofs.engine.Engine.send_class.Goals as goal

pub returns-in-Some-clause-goes : goal.returns-in-Some-clause-goes
returns-in-Some-clause-goes c = usual_goes c.args.prepared.now.program (view_of c.args.self.now) (view_of c.make_usual.new.self) c.args.space.now c.make_usual.result c.make_usual.ensures.goes c.make_usual.ensures.same

pub returns-in-Some-clause-falls : goal.returns-in-Some-clause-falls
returns-in-Some-clause-falls c = usual_falls (view_of c.args.self.now) (view_of c.make_usual.new.self) c.args.here c.make_usual.result c.requires.control c.make_usual.ensures.spends c.make_usual.ensures.size c.make_usual.ensures.same
