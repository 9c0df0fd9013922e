-- Past the frames there is none.
use Rattle.std.proofs.Common.{◌∙◌, sym, ap}
use Rattle.rr_frames.specs.Frames.{frame_at}
use Rattle.rr_eval.proofs.Invoking.{no_frame_there}
use Rattle.rr_eval.proofs.call_stack.CallStack.activation.Goals as goal

pub returns-in-None : goal.returns-in-None
returns-in-None c =
    c.no_activation.ensures
    ∙ sym (no_frame_there c.self.inside.frames.frames c.args.number (sym c.in-None.ensures))
    ∙ ap (λ s. (frame_at c.args.number s.frames).activation) c.self.view_is
