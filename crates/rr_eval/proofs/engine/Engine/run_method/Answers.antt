-- A method that reads an instance variable, in whatever class it stands.
use Rattle.std.proofs.Common.{◌++◌, ◌∙◌, ap}
use Rattle.rr_frames.specs.Frames.{list_of}
use Rattle.rr_eval.specs.Dispatch.{passed_on, run_work}
use Rattle.rr_eval.specs.Frames.{stand_of}
use Rattle.rr_eval.specs.Prepared.{work_in, way_in}
use Rattle.rr_eval.specs.Turns.{context_of, after_values}
use Rattle.rr_eval.specs.Views.{view_of}
use Rattle.rr_eval.proofs.engine.Engine.run_method.Goals as goal

pub returns-in-Read-clause-goes : goal.returns-in-Read-clause-goes
returns-in-Read-clause-goes c p h n =
    let m = view_of c.args.self.now in
    let ns = p.nodes.items in
    let vs = passed_on c.args.passing (stand_of c.args.frame m.held ++ list_of c.args.last) in
    ap (λ w. after_values p m c.args.space.now c.args.frame (run_work (context_of p) c.args.definition.class (work_in ns w) (way_in ns c.args.way) vs) h n) c.in-Read.is
    ∙ c.run_reader.ensures.goes p c.args.definition.class h n
