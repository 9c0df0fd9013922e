-- What is still to be gone out from a frame stays the same.
use Rattle.std.proofs.Common.{◌≡◌, ◌+◌}
use Rattle.rr_eval.specs.Variables.{top, outer}
use Rattle.rr_eval.proofs.call_stack.CallStack.outside.Given as goal

abbrev pub invariant-loop-rest : goal.invariant-loop-rest
invariant-loop-rest l = outer (l.more + 1) (top l.self.frames) l.self.frames ≡ outer l.rest l.number l.self.frames

abbrev pub decreases-loop-rest : goal.decreases-loop-rest
decreases-loop-rest l = l.rest
