-- A variable of the frame is among its values, and another one in a frame below.
use Rattle.std.proofs.Common.{◌∙◌, ◌-◌, ap, sym, arith}
use Rattle.rr_frames.specs.Frames.{Stack, read_at}
use Rattle.rr_eval.proofs.Frameless.{reads_outside}
use Rattle.rr_eval.proofs.call_stack.CallStack.read_unframed.Goals as goal

pub returns-in_ok-number-in_default : goal.returns-in_ok-number-in_default
returns-in_ok-number-in_default c = λ f lies.
    let x = c.args.variable in
    let found = c.in_ok-number-in_default in
    let fs = c.args.self.now.frames in
    reads_outside fs f c.args.home (x.depth - 1) found.number x lies.lies (omega arith) (found.ensures.goes f) found.ensures.there
    ∙ ap (λ (s : Stack). read_at found.number x.slot s.frames) (sym c.self.view_is)
    ∙ sym c.get-in_default.ensures
