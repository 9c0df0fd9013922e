-- Statements that are done without frames, and rounds of loops whose statements are such ones.
use Rattle.std.specs.Prelude.{◌≡◌, ◌+◌, ◌++◌, ◌∷◌, [], ℕ, zero, suc, Bool, true, false}
use Rattle.rr_space.specs.Tables.{Table}
use Rattle.rr_space.specs.declared.refer.Ref.{Ref}
use Rattle.rr_space.specs.declared.refer.Ref.TheVariants.{Nil}
use Rattle.rr_tree.specs.Nodes.{trees_before}
use Rattle.rr_tree.specs.Tree.{Tree}
use Rattle.rr_tree.specs.declared.program.Program.{Program}
use Rattle.rr_eval.specs.declared.frame.Control.TheVariants.{Give}
use Rattle.rr_eval.specs.declared.frame.Frame.TheVariants.{Body}
use Rattle.rr_eval.specs.declared.problem.Answer.TheVariants.{Gave}
use Rattle.rr_eval.specs.declared.usual_loops.Round.{Round}
use Rattle.rr_eval.specs.declared.usual_loops.Round.TheVariants.{Again, Over, Unfinished, Stopped}
use Rattle.rr_eval.specs.Frames.{means, runs_in}
use Rattle.rr_eval.specs.Requests.{Course}
use Rattle.rr_eval.specs.Rules.{statements}
use Rattle.rr_eval.specs.Script.{Ended, Outcome}
use Rattle.rr_eval.specs.Turns.{code_of, state_of, remaining, after_script}
use Rattle.rr_eval.specs.View.{View}

-- A tree takes so many steps, changes the variables of the frames that run to those that another view has, and nothing else, and has this
-- value, whatever was asked before.
abbrev pub SetsNow : Program → View → Table → Tree → ℕ → Ref → View → Type 0
SetsNow p m t tree steps v n = (h : Course) (i : ℕ) → means (code_of p h.world) tree (state_of p m t h) (steps + i) ≡ Ended (Gave v) (state_of p n t h) i

-- where none of some statements is left, they have the value of the last one; otherwise the others are still to be done
abbrev pub left_over : Program → View → Table → ℕ → ℕ → Ref → Course → ℕ → Outcome
left_over p m t end zero v h i = Ended (Gave v) (state_of p m t h) i
left_over p m t end (suc rest) v h i = runs_in (code_of p h.world) (statements (trees_before p.nodes.items end (suc rest))) (state_of p m t h) i

-- the first of some statements, all but these, do so
abbrev pub SetFirst : Program → View → Table → ℕ → ℕ → ℕ → ℕ → Ref → View → Type 0
SetFirst p m t end count rest steps v n = (h : Course) (i : ℕ) → runs_in (code_of p h.world) (statements (trees_before p.nodes.items end count)) (state_of p m t h) (steps + i) ≡ left_over p n t end rest v h i

-- A round of a loop, which comes next. Where statements are left, they are still to be done, and the frame of the loop's body waits for them.
abbrev pub Rounded : Program → View → Table → ℕ → ℕ → Round → View → Type 0
Rounded p old t here end Again new = (h : Course) → remaining p old t h ≡ remaining p new t h
Rounded p old t here end Over new = (h : Course) → remaining p old t h ≡ remaining p (record new { control = Give (Gave Nil) }) t h
Rounded p old t here end (Unfinished rest) new = (h : Course) → remaining p old t h ≡ after_script p (record new { frames = new.frames ++ Body here ∷ [] }) t (statements (trees_before p.nodes.items end rest)) h new.left
Rounded p old t here end Stopped new = (h : Course) → remaining p old t h ≡ remaining p new t h

-- something of a round was done, or its condition ended the loop
abbrev pub IsDone : Round → Type 0
IsDone Stopped = ⊥
IsDone _ = Unit {0}

-- the loop comes next again behind a round that was done
abbrev pub goes_again : Round → Bool
goes_again Again = true
goes_again _ = false
