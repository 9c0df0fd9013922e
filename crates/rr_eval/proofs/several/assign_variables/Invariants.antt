-- The targets that are left get the values that are left.
use Rattle.std.proofs.Common.{◌≡◌, ◌≤◌, ℕ, List, drop}
use Rattle.std.specs.List.{All}
use Rattle.rr_space.specs.declared.refer.Ref.{Ref}
use Rattle.rr_tree.specs.Nodes.{trees_before}
use Rattle.rr_eval.specs.Frames.{runs_in}
use Rattle.rr_eval.specs.Script.{State, World}
use Rattle.rr_eval.specs.Several.{assign_each}
use Rattle.rr_eval.specs.Turns.{context_of, code_of}
use Rattle.rr_eval.specs.Within.{Reach, IsReached, AreVariablesReached}
use Rattle.rr_eval.proofs.Targets.{with_calls}
use Rattle.rr_eval.proofs.several.assign_variables.Given as goal

abbrev pub invariant-loop-left : goal.invariant-loop-left
invariant-loop-left l = record {
  fewer : l.left ≤ l.count;
  goes : (w : World) (ps : List Ref) (right : Ref) (s : State) (n : ℕ)
      → runs_in (code_of l.program w) (assign_each (context_of l.program) (trees_before l.program.nodes.items l.end l.count) ps (drop l.first l.stand) right) (with_calls s l.initial.calls) n
      ≡ runs_in (code_of l.program w) (assign_each (context_of l.program) (trees_before l.program.nodes.items l.end l.left) ps (drop l.place l.stand) right) (with_calls s l.calls) n;
  reached : (k : Reach) → All (IsReached k) l.stand → All (AreVariablesReached k) l.initial.calls.frames → All (AreVariablesReached k) l.calls.frames;
}

abbrev pub decreases-loop-left : goal.decreases-loop-left
decreases-loop-left l = l.left
