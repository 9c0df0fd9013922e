-- What a rule says: evaluate a part, look at the memory, change it, ask the environment, answer.
use Rattle.std.specs.Prelude.{ℕ, List, [], ◌∷◌, ◌++◌, length, Option, Some, None}
use Rattle.rr_frames.specs.Frames.{Stack}
use Rattle.rr_space.specs.Tables.{Table}
use Rattle.rr_space.specs.declared.refer.Ref.{Ref}
use Rattle.rr_tree.specs.Tree.{Tree}
use Rattle.rr_eval.specs.declared.call.Callee.{Callee}
use Rattle.rr_eval.specs.declared.call.Task.{Task}
use Rattle.rr_eval.specs.declared.iterating.Visits.{Visits}
use Rattle.rr_eval.specs.declared.problem.Answer.{Answer}
use Rattle.rr_eval.specs.declared.problem.Response.{Response}
use Rattle.rr_eval.specs.declared.spot.Spot.{Spot}

-- the frames of the methods and blocks that run, with their variables, and beside each frame the block that its method was
-- given; the objects, and the exception that is being rescued, nil where none is
pub record Memory : Type 0 where
  pub calls : Stack
  pub blocks : List (Option Tree)
  pub table : Table
  pub rescuing : Ref

-- what a rule asks of the environment: to do something with values, with the objects then; to call a method of a receiver
pub data Asked : Type 0 where
  Does : (task : Task) (values : List Ref) (table : Table) → Asked
  Calls : (receiver : Ref) (callee : Callee) (arguments : List Ref) → Asked

-- what the environment responds, and the objects then
pub record Reply : Type 0 where
  pub response : Response
  pub table : Table

-- the environment: what it answers to a request, after what was asked before, where these objects are; it may leave a
-- request without a reply
abbrev pub World : Type 0
World = List Asked → Asked → Table → Option Reply

-- the memory, and what was asked so far
pub record State : Type 0 where
  pub memory : Memory
  pub asked : List Asked

-- An iteration that runs: what it still visits, its receiver and the other values that stand for it, and its block.
pub record Iterated : Type 0 where
  pub visits : Visits
  pub stand : List Ref
  pub block : Tree

-- what is evaluated: a tree, or a turn of an iteration, which is a call of its block with all that follows, or a call with whose
-- value a rule goes on, or an assignment to one of several targets
pub data Part : Type 0 where
  TreePart : (tree : Tree) → Part
  TurnPart : (iteration : Iterated) → Part
  CallPart : (callee : Callee) (receiver : Ref) (arguments : List Ref) → Part
  AssignPart : (spot : Spot) (value : Ref) → Part

-- a rule: it answers, or evaluates a part and goes on with its answer, or looks at the memory and goes on, or changes the
-- memory and goes on, or asks and goes on with the reply
pub data Script : Type 0 where
  Ret : Answer → Script
  Evaluate : Part → (Answer → Script) → Script
  See : (Memory → Script) → Script
  Do : (Memory → Memory) → Script → Script
  Ask : Asked → (Response → Script) → Script

-- evaluates a tree and goes on with its answer
abbrev pub Go : Tree → (Answer → Script) → Script
Go tree next = Evaluate (TreePart tree) next

-- how an evaluation ends: with an answer, the state and the steps that are left; out of steps; or with a request that has
-- no reply
pub data Outcome : Type 0 where
  Ended : Answer → State → ℕ → Outcome
  Spent : State → Outcome
  Waits : State → Outcome

-- how many objects there are then
abbrev pub objects_of : Outcome → ℕ
objects_of (Ended a s n) = length s.memory.table.slots
objects_of (Spent s) = length s.memory.table.slots
objects_of (Waits s) = length s.memory.table.slots

-- goes on from where an evaluation ended
abbrev pub after : Outcome → (Answer → State → ℕ → Outcome) → Outcome
after (Ended a s n) next = next a s n
after (Spent s) next = Spent s
after (Waits s) next = Waits s

-- goes on with a reply
abbrev pub taken : Option Reply → State → (Response → State → Outcome) → Outcome
taken None s next = Waits s
taken (Some r) s next = next r.response (record s { memory = record s.memory { table = r.table } })

-- goes on with the reply to a request
abbrev pub asks : World → Asked → State → (Response → State → Outcome) → Outcome
asks w q s next = taken (w s.asked q s.memory.table) (record s { asked = s.asked ++ q ∷ [] }) next

-- what parts do in a state, with so many steps to spend
abbrev pub Evaluation : Type 0
Evaluation = Part → State → ℕ → Outcome

-- what a rule does, where `go` evaluates its parts
abbrev pub run : World → Evaluation → Script → State → ℕ → Outcome
run w go (Ret a) s n = Ended a s n
run w go (Evaluate part next) s n = after (go part s n) (λ a. run w go (next a))
run w go (See look) s n = run w go (look s.memory) s n
run w go (Do act next) s n = run w go next (record s { memory = act s.memory }) n
run w go (Ask q next) s n = asks w q s (λ r u. run w go (next r) u n)
