-- Requests, and the environment that replies.
use Rattle.std.specs.Prelude.{List, [], ◌∷◌, ◌++◌, ◌≤◌, length, Option, Some, None}
use Rattle.rr_space.specs.Tables.{Table}
use Rattle.rr_space.specs.declared.refer.Ref.{Ref}
use Rattle.rr_eval.specs.declared.request.Request.{Request}
use Rattle.rr_eval.specs.declared.request.Request.TheVariants as requests
use Rattle.rr_eval.specs.declared.call.Arguments.{Arguments}
use Rattle.rr_eval.specs.declared.call.Arguments.TheVariants.{Without, One, Two, Many}
use Rattle.rr_eval.specs.Script.{Asked, Does, Calls, Reply, World}

abbrev pub arguments_of : Arguments → List Ref
arguments_of Without = []
arguments_of (One a) = a ∷ []
arguments_of (Two a b) = a ∷ b ∷ []
arguments_of (Many values) = values.items

-- what is asked, with the objects then
abbrev pub asked_of : Table → Request → Asked
asked_of t (requests.Do task values) = Does task (arguments_of values) t
asked_of t (requests.Call call) = Calls call.receiver call.callee (arguments_of call.arguments)

-- what was asked so far, and the environment
pub record Course : Type 0 where
  pub asked : List Asked
  pub world : World

-- one request more
abbrev pub asking : Asked → Course → Course
asking q h = record h { asked = h.asked ++ q ∷ [] }

-- an environment that takes no object away
abbrev pub AddsTo : Table → Option Reply → Type 0
AddsTo t None = Unit {0}
AddsTo t (Some r) = length t.slots ≤ length r.table.slots

abbrev pub Adds : World → Type 0
Adds w = (asked : List Asked) (q : Asked) (t : Table) → AddsTo t (w asked q t)
