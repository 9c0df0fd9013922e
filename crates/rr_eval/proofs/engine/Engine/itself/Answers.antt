-- `self` of the frame that runs is reached.
use Rattle.std.proofs.Common.{ap, sym, subst}
use Rattle.rr_frames.specs.declared.activation.Activation.{Activation}
use Rattle.rr_eval.specs.Variables.{top}
use Rattle.rr_eval.specs.Within.{IsReached}
use Rattle.rr_eval.proofs.Holding.{itself_within}
use Rattle.rr_eval.proofs.engine.Engine.itself.Goals as goal

pub returns-clause-within : goal.returns-clause-within
returns-clause-within c k h =
    let frames = c.args.self.now.calls.frames in
    subst (IsReached k) (ap (λ (a : Activation). a.itself) (sym c.running.ensures)) (itself_within k frames (top frames) h)
