-- A run of the machine over an environment that serves its requests.
use Rattle.std.specs.Prelude.{◌≡◌, ◌+◌, ℕ, nat_eq, if◌then◌else◌, length, List, [], ◌∷◌, Some, None, Result, Ok, Err}
use Rattle.rr_base.specs.declared.fault.Fault.{Fault}
use Rattle.rr_space.specs.Tables.{Table}
use Rattle.rr_tree.specs.declared.program.Program.{Program}
use Rattle.rr_eval.specs.declared.problem.Answer.TheVariants.{Gave, Raised}
use Rattle.rr_eval.specs.declared.environment.Ending.{Ending}
use Rattle.rr_eval.specs.declared.environment.Ending.TheVariants as endings
use Rattle.rr_eval.specs.Script.{Asked, Reply, World, Outcome, Ended, Spent}
use Rattle.rr_eval.specs.Requests.{Course, asking}
use Rattle.rr_eval.specs.View.{View}
use Rattle.rr_eval.specs.Turns.{state_of, remaining, asking_then}

-- a request, the objects when it was made, and its reply
pub record Exchange : Type 0 where
  pub asked : Asked
  pub table : Table
  pub reply : Reply

-- a course after exchanges, of which the last one stands first
abbrev pub course_after : Course → List Exchange → Course
course_after h [] = h
course_after h (x ∷ xs) = asking x.asked (course_after h xs)

-- the environment of the course replies so
abbrev pub Gives : Course → List Exchange → Type 0
Gives h [] = Unit {0}
Gives h (x ∷ xs) = ((course_after h xs).world (course_after h xs).asked x.asked x.table ≡ Some x.reply) × Gives h xs

-- these exchanges led an environment from one state to another
abbrev pub Served : {E : Type 0} → (E → Asked → Table → Reply → E → Type 0) → E → List Exchange → E → Type 0
Served leads old [] new = new ≡ old
Served {E} leads old (x ∷ xs) new = (middle : E) × Served leads old xs middle × leads middle x.asked x.table x.reply new

-- how a run ended, of which all this was to be done
abbrev pub EndsBy : Program → Outcome → Course → Result Ending Fault → View → Table → Type 0
EndsBy p all h (Ok (endings.Done v)) m t = all ≡ Ended (Gave v) (state_of p m t h) m.left
EndsBy p all h (Ok (endings.Raised e)) m t = all ≡ Ended (Raised e) (state_of p m t h) m.left
EndsBy p all h (Ok endings.StepLimit) m t = all ≡ Spent (state_of p m t h)
-- a request has no reply
EndsBy p all h (Ok (endings.Unserved f)) m t = (q : Asked) × (all ≡ asking_then p m t q h)
-- a growth was refused, and all can go on from there
EndsBy p all h (Err f) m t = all ≡ remaining p m t h

-- the same by the end of a run; an environment that could not serve a request is then in some other state
abbrev pub ServedTo : {E : Type 0} → Result Ending Fault → (E → Asked → Table → Reply → E → Type 0) → E → List Exchange → E → Type 0
ServedTo {E} (Ok (endings.Unserved f)) leads old xs new = (middle : E) × Served leads old xs middle
ServedTo _ leads old xs new = Served leads old xs new

-- What a run leaves: its requests and the replies to them are those of one run of the rules, in any environment that
-- replies so.
abbrev pub Ran : {E : Type 0} → (E → Asked → Table → Reply → E → Type 0) → Program → View → Table → E → Result Ending Fault → View → Table → E → Type 0
Ran leads p m t e r n u f = (xs : List Exchange) × ServedTo r leads e xs f × ((h : Course) → Gives h xs → EndsBy p (remaining p m t h) (course_after h xs) r n u)

-- the environment that gives these replies, where `first` requests were made before
abbrev pub world_of : ℕ → List Exchange → World
world_of first [] before q t = None
world_of first (x ∷ xs) before q t = if nat_eq (length before) (first + length xs) then Some x.reply else world_of first xs before q t
