-- Steps, where none is left.
use Rattle.std.proofs.Common.{◌≡◌, ap}
use Rattle.rr_space.specs.Tables.{Table}
use Rattle.rr_tree.specs.declared.program.Program.{Program}
use Rattle.rr_eval.specs.declared.frame.Control.{Control}
use Rattle.rr_eval.specs.declared.frame.Control.TheVariants.{Enter, Operate, Give, Throw, Raise, RaiseValue, Start, New, Pair, Send, Assign}
use Rattle.rr_eval.specs.Frames.{first_tree}
use Rattle.rr_eval.specs.Requests.{Course}
use Rattle.rr_eval.specs.Script.{Spent}
use Rattle.rr_eval.specs.Turns.{state_of, remaining, IsStep}
use Rattle.rr_eval.specs.View.{View}
use Rattle.rr_eval.proofs.CallParts.{call_limit}
use Rattle.rr_eval.proofs.Entered.{limit}
use Rattle.rr_eval.proofs.Spots.{assign_limit}

-- without steps no step is done
pub step_limit : (p : Program) (m : View) (t : Table) (k : Control) → m.control ≡ k → IsStep k → m.left ≡ 0 → (h : Course) → remaining p m t h ≡ Spent (state_of p m t h)
step_limit p m t (Enter part) at step left h = limit p m t _ (ap (first_tree p.nodes.items) at) left h
step_limit p m t (Operate op a b) at step left h = limit p m t _ (ap (first_tree p.nodes.items) at) left h
step_limit p m t (Send callee v w) at step left h = call_limit p m t callee v w at left h
step_limit p m t (Assign spot v) at step left h = assign_limit p m t spot v at left h
step_limit p m t (Give a) at step left h = absurd step
step_limit p m t (Throw e) at step left h = absurd step
step_limit p m t (Raise class message) at step left h = absurd step
step_limit p m t (RaiseValue v message) at step left h = absurd step
step_limit p m t (Start block problem) at step left h = absurd step
step_limit p m t (New class cause) at step left h = absurd step
step_limit p m t (Pair v w) at step left h = absurd step
