-- Trees that end what is around them.
use Rattle.std.specs.Prelude.{◌≡◌, ◌+◌, ◌++◌, ◌∷◌, [], ℕ, List, Bool, true, false}
use Rattle.rr_frames.specs.Frames.{Frame as Activated}
use Rattle.rr_space.specs.Tables.{Table}
use Rattle.rr_space.specs.declared.refer.Ref.{Ref}
use Rattle.rr_tree.specs.Tree.{Tree}
use Rattle.rr_tree.specs.declared.program.Program.{Program}
use Rattle.rr_eval.specs.declared.problem.Answer.{Answer}
use Rattle.rr_eval.specs.declared.problem.Answer.TheVariants.{Gave, Broke, Returned}
use Rattle.rr_eval.specs.Blocks.{is_outside}
use Rattle.rr_eval.specs.Frames.{means}
use Rattle.rr_eval.specs.Requests.{Course}
use Rattle.rr_eval.specs.Script.{Ended}
use Rattle.rr_eval.specs.Turns.{code_of, state_of}
use Rattle.rr_eval.specs.Unframed.{LiesIn, framed_with}
use Rattle.rr_eval.specs.View.{View}

-- the answer of what has a value, or returns it
abbrev pub ended_with : Bool → Ref → Answer
ended_with true v = Returned v
ended_with false v = Gave v

-- a tree takes so many steps, leaves all as it is, and has this answer, whatever was asked before
abbrev pub EndsNow : Program → View → Table → Tree → ℕ → Answer → Type 0
EndsNow p m t tree steps answer = (h : Course) (n : ℕ) → means (code_of p h.world) tree (state_of p m t h) (steps + n) ≡ Ended answer (state_of p m t h) n

-- it does so in any frame that has these values and lies there, and that is none of a block outside of all methods
abbrev pub EndsInside : Program → View → List Ref → ℕ → Tree → ℕ → Answer → Type 0
EndsInside p m values home tree steps answer =
    (f : Activated) (t : Table) → LiesIn values home f → is_outside (m.calls.frames ++ f ∷ []) ≡ false → EndsNow p (framed_with f m) t tree steps answer

-- a tree takes so many steps in any frame that has these values and lies there, leaves all as it is, and is a `break` with this value
abbrev pub BreaksInside : Program → View → List Ref → ℕ → Tree → ℕ → Ref → Type 0
BreaksInside p m values home tree steps v = (f : Activated) (t : Table) → LiesIn values home f → EndsNow p (framed_with f m) t tree steps (Broke v)
