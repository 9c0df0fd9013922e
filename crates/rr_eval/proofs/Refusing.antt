-- Starts of ractors, which raise.
use Rattle.std.proofs.Common.{◌≡◌, ◌∙◌, ap, arith, ℕ, List, length}
use Rattle.rr_base.specs.declared.fault.Fault.{Fault}
use Rattle.rr_base.specs.declared.name.ClassId.{ClassId}
use Rattle.rr_space.specs.Tables.{Table}
use Rattle.rr_space.specs.declared.refer.Ref.TheVariants.{Local}
use Rattle.rr_tree.specs.Tree.{tree_at}
use Rattle.rr_tree.specs.declared.program.Program.{Program}
use Rattle.rr_builtin.specs.Acts.{with_text}
use Rattle.rr_eval.specs.declared.frame.Control.TheVariants.{Start}
use Rattle.rr_eval.specs.declared.problem.Problem.{Problem}
use Rattle.rr_eval.specs.Acts.{Passes}
use Rattle.rr_eval.specs.Frames.{outcome_of}
use Rattle.rr_eval.specs.Requests.{Course, Adds}
use Rattle.rr_eval.specs.Rules.{raise}
use Rattle.rr_eval.specs.Script.{objects_of}
use Rattle.rr_eval.specs.Starting.{raise_text, start_rule}
use Rattle.rr_eval.specs.Turns.{context_of, code_of, state_of, remaining, after_script}
use Rattle.rr_eval.specs.View.{View}
use Rattle.rr_eval.proofs.Keeping.{raise_keeps}
use Rattle.rr_eval.proofs.Objects.{script_keeps}

-- what is still to be done is the raise
pub start_is : (p : Program) (m : View) (t : Table) (block : ℕ) (problem : Problem) (class : ClassId) (bytes : List ℕ) (h : Course)
    → m.control ≡ Start block problem → start_rule (context_of p) (tree_at p.nodes.items block) problem ≡ raise_text class bytes
    → remaining p m t h ≡ after_script p m t (raise_text class bytes) h m.left
start_is p m t block problem class bytes h control is =
    ap (λ k. outcome_of (code_of p h.world) m.frames m.held k (state_of p m t h) m.left) control
    ∙ ap (λ s. after_script p m t s h m.left) is

-- the message would be one object too many
pub text_passes : (p : Program) (m : View) (t : Table) (class : ClassId) (bytes : List ℕ) (f : Fault) (h : Course) (n : ℕ) → Adds h.world → Passes f t.limit (length (with_text bytes t).slots) → Passes f t.limit (objects_of (after_script p m t (raise_text class bytes) h n))
text_passes p m t class bytes f h n adds passes = λ is.
    let more = passes is in
    let made = with_text bytes t in
    let kept = script_keeps p m made (raise class (Local (length t.slots))) h n adds (raise_keeps class (Local (length t.slots))) in
    omega arith
