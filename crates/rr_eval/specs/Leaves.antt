-- The values that stand in arrays, as `puts` and `join` come to them: an array in an array is taken apart alike.
use Rattle.std.specs.Prelude.{◌≡◌, ℕ, zero, suc, ◌-◌, ◌+◌, ◌<◌, ◌≤◌, ◌^◌, List, [], ◌∷◌, ◌++◌, map, length, Option, Some, None, Result, Err, if◌then◌else◌}
use Rattle.std.specs.List.{All}
use Rattle.rr_base.specs.declared.limits.TheConstants.Limits.{DEFAULT}
use Rattle.rr_frames.specs.Frames.{list_of}
use Rattle.rr_space.specs.Kinds.{kind_at}
use Rattle.rr_space.specs.Tables.{Table}
use Rattle.rr_space.specs.declared.refer.Ref.{Ref}
use Rattle.rr_space.specs.declared.refer.Ref.TheVariants.{Nil}
use Rattle.rr_text.specs.Walk.{Outcome, Wrote, Differs, Deep, Circular, Shell, Look, Leaf, Branch, followed, walk}
use Rattle.rr_text.specs.Comparing.{all_there}
use Rattle.rr_text.specs.Rest.{Begun, whole, showing, load}
use Rattle.rr_text.specs.Frames.{breadth}
use Rattle.rr_builtin.specs.Elements.{count_at}
use Rattle.rr_builtin.specs.Kinds.{is_array_kind}
use Rattle.rr_builtin.specs.Objects.{identical}
use Rattle.rr_builtin.specs.Rounds.{Read, Reads, ReadsNone, IsMoved, item_at}
use Rattle.rr_builtin.specs.declared.problem.Problem.TheVariants.{TooDeep, Circular as InItself, Moved}
use Rattle.rr_eval.specs.declared.leaves.Found.{Found}
use Rattle.rr_eval.specs.declared.leaves.Found.TheVariants as finds
use Rattle.rr_eval.specs.declared.leaves.Going.{Going}
use Rattle.rr_eval.specs.declared.leaves.Going.TheVariants as going
use Rattle.rr_eval.specs.declared.leaves.Opened.{Opened}
use Rattle.rr_eval.specs.declared.leaves.Taking.{Taking}
use Rattle.rr_eval.specs.declared.leaves.Taking.TheVariants.{Lines, Joint}
use Rattle.rr_eval.specs.declared.problem.Problem.{Problem}
use Rattle.rr_eval.specs.declared.problem.Problem.TheVariants.{BuiltIn}
use Rattle.rr_eval.specs.Responses.{own_of}
use Rattle.rr_eval.specs.Splats.{own_items}
use Rattle.rr_eval.specs.Within.{Reach, IsReached}

-- a value that stands in an array; none where it is published and not known
abbrev pub Item : Type 0
Item = Option Ref

abbrev pub own_read : Table → Read → Item
own_read t (Reads x) = own_of t x
own_read t ReadsNone = None
own_read t IsMoved = None

abbrev pub element : Table → Ref → ℕ → Item
element t v place = own_read t (item_at t v place)

-- so many elements of an array, from a place on
abbrev pub elements : Table → Ref → ℕ → ℕ → List Item
elements t v place zero = []
elements t v place (suc count) = element t v place ∷ elements t v (suc place) count

-- with nothing written before each
abbrev pub parts : List Item → List (List Item × Item)
parts items = map (λ i. ([], i)) items

-- An array that stands inside itself stays where `puts` comes to it again; it cannot be joined.
abbrev pub again : Taking → Ref → Outcome Item
again Lines v = Wrote (Some v ∷ [])
again Joint v = Circular

-- the array was found, or the walk ends
abbrev pub IsComeAgain : Taking → Ref → Going → List Item → List Item → Type 0
IsComeAgain Lines v going.On out out' = out' ≡ out ++ Some v ∷ []
IsComeAgain Joint v going.Circular out out' = out' ≡ out
IsComeAgain _ v _ out out' = ⊥

-- for an empty array stands nil: `puts` writes an empty line for both, and `join` nothing
abbrev pub array_look : Taking → Table → Ref → ℕ → Look Item Item Ref
array_look how t v zero = Leaf (Wrote (Some Nil ∷ []))
array_look how t v (suc n) = Branch v (again how v) [] (parts (elements t v 0 (suc n))) []

-- what stands at an item: the elements of an array, or the value itself
unfoldable pub look : Taking → Table → Item → Look Item Item Ref
look how t None = Leaf (Wrote (None ∷ []))
look how t (Some v) = if is_array_kind (kind_at t v) then array_look how t v (count_at t v) else Leaf (Wrote (Some v ∷ []))

-- the leaves of a value, where so many arrays may be begun inside one another
unfoldable pub leaves_in : Taking → Table → ℕ → Ref → Outcome Item
leaves_in how t levels v = walk (look how t) (identical t) levels [] (Some v)

-- those of values, one after the other
abbrev pub all_leaves : Taking → Table → ℕ → List Ref → Outcome Item
all_leaves how t levels [] = Wrote []
all_leaves how t levels (v ∷ vs) = followed (leaves_in how t levels v) (all_leaves how t levels vs)

-- the values, or what is raised: published ones that are not known are not told yet
abbrev pub told : Outcome Item → Result (List Ref) Problem
told (Wrote items) = own_items (all_there items)
told Deep = Err (BuiltIn TooDeep)
told Circular = Err (BuiltIn InItself)
told Differs = Err (BuiltIn Moved)
told Shell = Err (BuiltIn Moved)

abbrev pub leaves_of : Taking → Table → List Ref → Result (List Ref) Problem
leaves_of how t vs = told (all_leaves how t DEFAULT.levels vs)

-- values with another one between them
abbrev pub behind_each : Ref → List Ref → List Ref
behind_each s [] = []
behind_each s (v ∷ vs) = s ∷ v ∷ behind_each s vs

abbrev pub between : Ref → List Ref → List Ref
between s [] = []
between s (v ∷ vs) = v ∷ behind_each s vs

-- ---- The walk with a stack.

abbrev pub found_in : Found → Outcome Item
found_in (finds.Items items) = Wrote items.items
found_in finds.Deep = Deep
found_in finds.Circular = Circular

abbrev pub begun_of : Table → Opened → Begun Item Item Ref
begun_of t f = record { key = f.array; parts = parts (elements t f.array f.next (count_at t f.array - f.next)); closing = [] }

module _ (how : Taking) (t : Table) (levels : ℕ) where
  -- a stack that has found these
  abbrev pub whole_of : List Opened → List Item → Outcome Item
  whole_of fs out = whole (look how t) (identical t) (begun_of t) levels fs out

  -- the same where an item comes first
  abbrev pub showing_of : List Opened → List Item → Item → Outcome Item
  showing_of fs out i = showing (look how t) (identical t) (begun_of t) levels fs out i

  -- what the walk comes to: it goes on with these arrays, or it ends
  abbrev pub ahead : Going → List Opened → List Item → Outcome Item
  ahead going.On fs out = whole_of fs out
  ahead going.Deep fs out = Deep
  ahead going.Circular fs out = Circular

-- the elements that are left
abbrev pub rest_of : Table → Opened → ℕ
rest_of t f = count_at t f.array - f.next

-- what is left to do grew by less than one element of the array below
pub record IsGrown (t : Table) (levels : ℕ) (fs fs' : List Opened) : Type 0 where
  pub fit : length fs' ≤ levels
  pub light : load (rest_of t) breadth levels fs' < load (rest_of t) breadth levels fs + breadth ^ (suc levels - length fs)

-- ---- What is found is reached.

abbrev pub IsItemReached : Reach → Item → Type 0
IsItemReached k i = All (IsReached k) (list_of i)

abbrev pub AreItemsReached : Reach → List Item → Type 0
AreItemsReached k items = All (IsItemReached k) items

abbrev pub AreOpenedReached : Reach → List Opened → Type 0
AreOpenedReached k fs = All (λ (f : Opened). IsReached k f.array) fs

abbrev pub IsFoundReached : Reach → Found → Type 0
IsFoundReached k (finds.Items items) = AreItemsReached k items.items
IsFoundReached k finds.Deep = Unit {0}
IsFoundReached k finds.Circular = Unit {0}
