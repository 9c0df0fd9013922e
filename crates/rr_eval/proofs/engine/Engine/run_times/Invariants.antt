-- The turns so far are done.
use Rattle.std.specs.Prelude.{◌≡◌, ◌≤◌, drop, length}
use Rattle.rr_space.specs.Tables.{Table}
use Rattle.rr_eval.specs.declared.frame.Frame.TheVariants.{Turned}
use Rattle.rr_eval.specs.declared.iterating.Visits.TheVariants.{Times}
use Rattle.rr_eval.specs.Frames.{iterated}
use Rattle.rr_eval.specs.Iterating.{continued_with}
use Rattle.rr_eval.specs.Requests.{Course}
use Rattle.rr_eval.specs.Turns.{context_of, code_of, after_values}
use Rattle.rr_eval.specs.Unframed.{AsMany}
use Rattle.rr_eval.specs.Views.{view_of}
use Rattle.rr_eval.specs.Within.{Reach, AreReached, IsReached}
use Rattle.rr_eval.proofs.engine.Engine.run_times.Given as goal

abbrev pub invariant-loop-self : goal.invariant-loop-self
invariant-loop-self l = record {
  next : l.next ≡ record l.fn.iteration { visits = l.last.visits };
  visits : l.last.visits ≡ Times l.here;
  goes : (t : Table) (h : Course) → after_values l.prepared.program (view_of l.fn.self) t (Turned l.fn.iteration) (continued_with (context_of l.prepared.program) (iterated (code_of l.prepared.program h.world) l.fn.iteration (drop l.fn.iteration.base l.fn.self.held.items)) l.fn.value) h l.fn.self.left ≡ after_values l.prepared.program (view_of l.self) t (Turned l.next) (continued_with (context_of l.prepared.program) (iterated (code_of l.prepared.program h.world) l.next (drop l.next.base l.self.held.items)) l.last.value) h l.self.left;
  base : l.next.base ≡ l.fn.iteration.base;
  block : l.next.block ≡ l.fn.iteration.block;
  within : (k : Reach) → AreReached k (view_of l.fn.self) → AreReached k (view_of l.self);
  value : (k : Reach) → IsReached k l.fn.value → IsReached k l.last.value;
  others : l.self ≡ record l.fn.self { calls = l.self.calls; left = l.self.left };
  many : AsMany l.fn.self.calls l.self.calls;
  left : l.stop ≤ l.self.left;
  kept : l.self.left ≤ l.fn.self.left;
}

abbrev pub decreases-loop-self : goal.decreases-loop-self
decreases-loop-self l = l.self.left
