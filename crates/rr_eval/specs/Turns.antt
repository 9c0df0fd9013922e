-- What the machine has still to do, and what a turn does of it.
use Rattle.std.specs.Prelude.{◌≡◌, ◌+◌, ◌*◌, ◌<◌, ◌≤◌, length, map, ℕ, Option, Some, None, Vec, Result, Ok, Err, List, reverse}
use Rattle.rr_base.specs.declared.fault.Fault.{Fault}
use Rattle.std.specs.Option.{option_map}
use Rattle.rr_frames.specs.Frames.{Frame as Activated}
use Rattle.rr_space.specs.Tables.{Table}
use Rattle.rr_space.specs.declared.refer.Ref.{Ref}
use Rattle.rr_space.specs.declared.refer.Ref.TheVariants.{Int}
use Rattle.rr_tree.specs.Tree.{Tree, int, local, tree_at}
use Rattle.rr_tree.specs.declared.node.Node.{Node}
use Rattle.rr_eval.specs.Variables.{read_variable}
use Rattle.rr_tree.specs.declared.program.Program.{Program}
use Rattle.rr_eval.specs.declared.problem.Answer.{Answer}
use Rattle.rr_eval.specs.declared.problem.Answer.TheVariants.{Gave, Raised, Broke, Done, Returned, Ends}
use Rattle.rr_eval.specs.declared.frame.Frame.{Frame}
use Rattle.rr_eval.specs.declared.frame.Control.{Control}
use Rattle.rr_eval.specs.declared.frame.Control.TheVariants.{Enter, Operate, Give, Throw, Raise, RaiseValue, Start, New, Pair, Send, Assign}
use Rattle.rr_eval.specs.declared.engine.Turn.{Turn}
use Rattle.rr_eval.specs.declared.engine.Turn.TheVariants as turns
use Rattle.rr_eval.specs.Acts.{IsRefusal}
use Rattle.rr_eval.specs.declared.request.Request.{Request}
use Rattle.rr_eval.specs.declared.problem.Response.{Response}
use Rattle.rr_eval.specs.declared.problem.Response.TheVariants as response
use Rattle.rr_eval.specs.Script.{State, Script, Ask, World, Asked, Outcome, Ended, Spent, Waits}
use Rattle.rr_eval.specs.Requests.{Course, asked_of, asking}
use Rattle.rr_eval.specs.Rules.{Context, settled}
use Rattle.rr_eval.specs.Frames.{Code, runs_in, outcome_of, resumed, unwind, Nested, below_of, stand_of}
use Rattle.rr_eval.specs.View.{View}

abbrev pub contents : {A B : Type 0} → List (Vec B A) → List (List B)
contents vs = map (λ v. v.items) vs

-- the names and the text literals of a program
abbrev pub context_of : Program → Context
context_of p = record { symbols = contents p.symbols.items; texts = contents p.texts.items; program = p }

abbrev pub code_of : Program → World → Code
code_of p w = record { nodes = p.nodes.items; context = context_of p; world = w }

-- the trees of blocks
unfoldable pub blocks_of : List Node → List (Option ℕ) → List (Option Tree)
blocks_of ns blocks = map (option_map (tree_at ns)) blocks

-- the frames of methods and blocks, the objects and the exception that is being rescued, after this was asked
abbrev pub state_of : Program → View → Table → Course → State
state_of p m t h = record { memory = record { calls = m.calls; blocks = blocks_of p.nodes.items m.blocks; table = t; rescuing = m.rescuing }; asked = h.asked }

-- what is still to be done with n steps, after this was asked
abbrev pub remaining_with : Program → View → Table → Course → ℕ → Outcome
remaining_with p m t h n = outcome_of (code_of p h.world) m.frames m.held m.control (state_of p m t h) n

-- the same with the steps that are left
abbrev pub remaining : Program → View → Table → Course → Outcome
remaining p m t h = remaining_with p m t h m.left

-- what is still to be done with n steps, where the machine asks and goes on with the reply
abbrev pub asking_with : Program → View → Table → Asked → Course → ℕ → Outcome
asking_with p m t q h n = unwind (code_of p h.world) (reverse m.frames) m.held (runs_in (code_of p h.world) (Ask q (settled (context_of p))) (state_of p m t h) n)

-- the same with the steps that are left
abbrev pub asking_then : Program → View → Table → Asked → Course → Outcome
asking_then p m t q h = asking_with p m t q h m.left

-- what is still to be done with n steps, where the machine may ask first
abbrev pub continuing : Program → View → Table → Option Request → Course → ℕ → Outcome
continuing p m t None h n = remaining_with p m t h n
continuing p m t (Some q) h n = asking_with p m t (asked_of t q) h n

-- what comes after a response
abbrev pub control_of : Response → Control
control_of (response.Gives v) = Give (Gave v)
control_of (response.Throws e) = Give (Raised e)
control_of (response.Fails e) = Throw e

-- how a turn stops where all ends with an answer
abbrev pub stop_of : Answer → Turn
stop_of (Gave v) = turns.Done v
stop_of (Raised e) = turns.Raised e
stop_of (Broke v) = turns.Done v
stop_of (Done v) = turns.Done v
stop_of (Returned v) = turns.Done v
stop_of (Ends number v) = turns.Done v

-- the machine goes on with a response
abbrev pub answered : View → Response → View
answered m r = record m { control = control_of r }

-- what the frames do after a script, with n steps
abbrev pub after_script : Program → View → Table → Script → Course → ℕ → Outcome
after_script p m t script h n = unwind (code_of p h.world) (reverse m.frames) m.held (runs_in (code_of p h.world) script (state_of p m t h) n)

-- what the frames do where one that was taken off gets an answer
abbrev pub after_answer : Program → View → Table → Frame → Answer → Course → ℕ → Outcome
after_answer p m t f a h n =
    unwind (code_of p h.world) (reverse m.frames) (below_of f m.held) (runs_in (code_of p h.world) (resumed (code_of p h.world) f (stand_of f m.held) a) (state_of p m t h) n)

-- what the frames below a frame that was taken off do after a script, with n steps
abbrev pub after_values : Program → View → Table → Frame → Script → Course → ℕ → Outcome
after_values p m t f script h n = unwind (code_of p h.world) (reverse m.frames) (below_of f m.held) (runs_in (code_of p h.world) script (state_of p m t h) n)

abbrev pub IsNested : View → Type 0
IsNested m = Nested (reverse m.frames) m.held

-- a growth was refused, and all stands as before
pub record Stands (old new : View) (before after : Table) (f : Fault) : Type 0 where
  pub control : new.control ≡ old.control
  pub frames : new.frames ≡ old.frames
  pub held : new.held ≡ old.held
  pub calls : new.calls ≡ old.calls
  pub blocks : new.blocks ≡ old.blocks
  pub rescuing : new.rescuing ≡ old.rescuing
  pub left : new.left ≡ old.left
  pub objects : after ≡ before
  pub refusal : IsRefusal f

-- the value of a tree that takes one step and leaves all as it is
abbrev pub leaf_value : Tree → List Activated → Option Ref
leaf_value (int z) frames = Some (Int z)
leaf_value (local depth slot x behind) frames = Some (read_variable (record { depth = depth; slot = slot }) frames)
leaf_value _ frames = None

-- A turn of at most `budget` steps: what was still to be done is what it did, and then what is still to be done. It stops
-- at the step limit only where the budget reaches it.
abbrev pub Turned : Program → View → Table → ℕ → Result Turn Fault → View → Table → Type 0
-- each step was spent
Turned p old t budget (Ok turns.More) new u = (new.left + budget ≡ old.left) × ((h : Course) → remaining p old t h ≡ remaining p new u h)
Turned p old t budget (Ok (turns.Ask q)) new u = (old.left ≤ new.left + budget) × ((h : Course) → remaining p old t h ≡ asking_then p new u (asked_of u q) h)
Turned p old t budget (Ok (turns.Done v)) new u = (old.left ≤ new.left + budget) × ((h : Course) → remaining p old t h ≡ Ended (Gave v) (state_of p new u h) new.left)
Turned p old t budget (Ok (turns.Raised e)) new u = (old.left ≤ new.left + budget) × ((h : Course) → remaining p old t h ≡ Ended (Raised e) (state_of p new u h) new.left)
Turned p old t budget (Ok turns.StepLimit) new u = (old.left ≤ budget) × (new.left ≡ 0) × ((h : Course) → remaining p old t h ≡ Spent (state_of p new u h))
-- a growth was refused, and the next turn goes on from there
Turned p old t budget (Err f) new u = IsRefusal f × (old.left ≤ new.left + budget) × ((h : Course) → remaining p old t h ≡ remaining p new u h)

-- What a reply does, with the objects then: the machine goes on with its response. Without a reply all ends there.
pub record Replied (p : Program) (m : View) (response : Response) : Type 0 where
  pub goes : (t u : Table) (q : Asked) (h : Course) → h.world h.asked q t ≡ Some (record { response = response; table = u }) → asking_then p m t q h ≡ remaining p (answered m response) u (asking q h)
  pub none : (t : Table) (q : Asked) (h : Course) → h.world h.asked q t ≡ None → asking_then p m t q h ≡ Waits (state_of p m t (asking q h))

-- what ends a turn of an iteration, or a method by which a value is asked, gives a frame a value then
abbrev pub more_of : Answer → ℕ
more_of (Gave v) = 0
more_of (Raised e) = 0
more_of _ = 1

-- a bound on what can be done without a step
abbrev pub waits : Control → ℕ
waits (Enter part) = 0
waits (Operate op a b) = 0
waits (Give a) = 2 + more_of a
waits (Raise class message) = 3
waits (Throw e) = 4
waits (RaiseValue v message) = 4
waits (Start block problem) = 4
-- the object, or the array, is given to the frame that waits for it at once
waits (New class cause) = 1
waits (Pair v w) = 1
waits (Send callee v w) = 0
waits (Assign spot v) = 0

abbrev pub size : View → ℕ
size m = 3 * length m.frames + waits m.control

-- the same where the machine may have asked: the reply gives a response
abbrev pub sized : Option Request → View → ℕ
sized None m = size m
sized (Some q) m = 3 * length m.frames + 4

-- what falls from turn to turn, and over each reply
abbrev pub power : View → ℕ
power m = 9 * m.left + size m

abbrev pub Falls : {E : Type 0} → View → Result Turn E → View → Type 0
Falls old (Ok turns.More) new = power new < power old
Falls old (Ok (turns.Ask q)) new = 9 * new.left + sized (Some q) new < power old
Falls old _ new = Unit {0}

-- what comes first is a step
abbrev pub IsStep : Control → Type 0
IsStep (Enter part) = Unit {0}
IsStep (Operate op a b) = Unit {0}
IsStep (Send callee v w) = Unit {0}
IsStep (Assign spot v) = Unit {0}
IsStep _ = ⊥

-- One act: what was still to be done is what it did, and then what is still to be done. The turn goes on, or stops there, with as many steps
-- left as `stop` where they are spent.
abbrev pub Acted : Program → View → Table → ℕ → Result (Option Turn) Fault → View → Table → Type 0
Acted p old t stop (Ok None) new u = (h : Course) → remaining p old t h ≡ remaining p new u h
Acted p old t stop (Ok (Some turns.More)) new u = (0 < new.left) × (new.left ≡ stop) × ((h : Course) → remaining p old t h ≡ remaining p new u h)
Acted p old t stop (Ok (Some (turns.Ask q))) new u = (h : Course) → remaining p old t h ≡ asking_then p new u (asked_of u q) h
Acted p old t stop (Ok (Some (turns.Done v))) new u = (h : Course) → remaining p old t h ≡ Ended (Gave v) (state_of p new u h) new.left
Acted p old t stop (Ok (Some (turns.Raised e))) new u = (h : Course) → remaining p old t h ≡ Ended (Raised e) (state_of p new u h) new.left
Acted p old t stop (Ok (Some turns.StepLimit)) new u = (new.left ≡ 0) × ((h : Course) → remaining p old t h ≡ Spent (state_of p new u h))
-- a growth was refused, and the next turn goes on from there
Acted p old t stop (Err f) new u = IsRefusal f × ((h : Course) → remaining p old t h ≡ remaining p new u h)

-- what falls from act to act, each step by one at least
abbrev pub Descends : View → Option Turn → View → Type 0
Descends old None new = (power new < power old) × (power new + old.left ≤ power old + new.left)
Descends old (Some turns.More) new = power new + old.left ≤ power old + new.left
Descends old (Some (turns.Ask q)) new = 9 * new.left + sized (Some q) new < power old
Descends old _ new = Unit {0}
