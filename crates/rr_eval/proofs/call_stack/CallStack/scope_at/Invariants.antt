-- What is still to be gone out from a frame stays the same.
use Rattle.std.proofs.Common.{◌≡◌, [], ◌∷◌, ◌++◌}
use Rattle.rr_frames.specs.Frames.{Frame as Activated}
use Rattle.rr_eval.specs.Variables.{outer}
use Rattle.rr_eval.proofs.call_stack.CallStack.scope_at.Given as goal

abbrev pub invariant-loop-rest : goal.invariant-loop-rest
invariant-loop-rest l = (f : Activated) → outer l.more l.home (l.self.frames ++ f ∷ []) ≡ outer l.rest l.number (l.self.frames ++ f ∷ [])

abbrev pub decreases-loop-rest : goal.decreases-loop-rest
decreases-loop-rest l = l.rest
