-- The frame of a loop's body holds no reference.
use Rattle.std.proofs.Common.{[], ◌∷◌, ◌++◌}
use Rattle.rr_eval.specs.declared.frame.Frame.TheVariants.{Body}
use Rattle.rr_eval.specs.Views.{view_of}
use Rattle.rr_eval.specs.Within.{AreReached}
use Rattle.rr_eval.proofs.Holding.{with_frame, with_frames}
use Rattle.rr_eval.proofs.engine.Engine.begin_rest.Goals as goal

pub returns-clause-within : goal.returns-clause-within
unfolding AreReached
returns-clause-within c k h =
    let m = view_of c.args.self.now in
    let frames = m.frames ++ Body c.args.here ∷ [] in
    c.begin.ensures.within k (with_frames k (record m { frames = frames }) c.push_below.new.items.items c.push_below.ensures.pushed (with_frame k m (Body c.args.here) m.control h tt h.control))
