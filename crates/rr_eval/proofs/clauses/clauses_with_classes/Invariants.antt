-- The clauses before take no exception that is not a StandardError.
use Rattle.std.proofs.Common.{◌≡◌, ℕ, false}
use Rattle.rr_base.specs.declared.name.TheConstants.ClassId.{STANDARD_ERROR}
use Rattle.rr_space.specs.Kinds.{class_at}
use Rattle.rr_space.specs.declared.refer.Ref.{Ref}
use Rattle.rr_tree.specs.Nodes.{trees_before}
use Rattle.rr_tree.specs.Ancestors.{descends}
use Rattle.rr_eval.specs.Frames.{runs_in}
use Rattle.rr_eval.specs.Rescuing.{tried}
use Rattle.rr_eval.specs.Script.{State, World}
use Rattle.rr_eval.specs.Turns.{context_of, code_of}
use Rattle.rr_eval.proofs.clauses.clauses_with_classes.Given as goal

abbrev pub invariant-loop-more : goal.invariant-loop-more
invariant-loop-more l =
    (w : World) (e : Ref) (s : State) (n : ℕ) → descends l.program (class_at s.memory.table e).0 STANDARD_ERROR.0 ≡ false
    → runs_in (code_of l.program w) (tried (context_of l.program) e (trees_before l.program.nodes.items l.end l.count)) s n ≡ runs_in (code_of l.program w) (tried (context_of l.program) e (trees_before l.program.nodes.items l.end l.more)) s n

abbrev pub decreases-loop-more : goal.decreases-loop-more
decreases-loop-more l = l.more
