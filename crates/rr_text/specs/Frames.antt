-- The frames of a walk, as things that are being walked.
use Rattle.std.specs.Prelude.{◌≡◌, ℕ, zero, suc, Bool, ◌+◌, ◌-◌, ◌<◌, ◌≤◌, ◌^◌, false, List, [], ◌∷◌, ◌++◌, codes, drop, length, Option, Some, None, slice_get, All}
use Rattle.std.specs.List.{list_any}
use Rattle.std.specs.Bool.{MatchBool}
use Rattle.rr_space.specs.Graph.{Value, Plain, At, Label, Object, Graph}
use Rattle.rr_space.specs.Tables.{Below, Table, Slot, resolve}
use Rattle.rr_space.specs.Parts.{value_of}
use Rattle.rr_space.specs.Views.{IsKnownFrom, emptied}
use Rattle.rr_space.specs.Labels.{triples_at}
use Rattle.rr_space.specs.declared.refer.Ref.{Ref}
use Rattle.rr_text.specs.Walk.{Outcome, Wrote, Deep, Shell}
use Rattle.rr_text.specs.Forms.{Names, Item, Key, Piece, spelled, Walker, inspecting, lining, inspected, lines, line_end, thing, elements, entries, look, same_key}
use Rattle.rr_text.specs.Ways.{way_of}
use Rattle.rr_text.specs.Reads.{IsAmong, IsAtEnd}
use Rattle.rr_text.specs.Rest.{Begun, whole, showing, load}
use Rattle.rr_text.specs.declared.walk.Shape.{Shape}
use Rattle.rr_text.specs.declared.walk.Shape.TheVariants.{Elements, Lines, Pairs}
use Rattle.rr_text.specs.declared.walk.Frame.{Frame}
use Rattle.rr_text.specs.declared.walk.Part.{Part}
use Rattle.rr_text.specs.declared.walk.Going.{Going}
use Rattle.rr_text.specs.declared.walk.Going.TheVariants.{On, Deep as GoingDeep, Shell as GoingShell}

abbrev pub walker_of : Shape → Walker
walker_of Elements = inspecting
walker_of Lines = lining
walker_of (Pairs form) = inspecting

abbrev pub key_of : Frame → Key
key_of f = (walker_of f.shape, value_of f.object)

-- what stands before a part: nothing before the first of them
abbrev pub lead_at : ℕ → List ℕ → List ℕ
lead_at zero between = []
lead_at (suc k) between = between

module _ (names : Names) (g : Graph) where
  -- the object that a value is; an immediate is read as a shell
  abbrev pub thing_in : Value → Object
  thing_in (Plain i) = emptied
  thing_in (At n) = thing names g n

  -- the parts from the k-th triple on
  abbrev pub parts_from : Shape → ℕ → List (Label × Value) → List (List Piece × Item)
  parts_from Elements k ts = elements inspected (lead_at k (codes ", ")) (codes ", ") (drop k ts)
  parts_from Lines k ts = elements lines [] [] (drop k ts)
  parts_from (Pairs form) k ts = entries names g (lead_at k (codes ", ")) (drop k ts)

  abbrev pub closing_of : Shape → List ℕ
  closing_of Elements = codes "]"
  closing_of Lines = []
  closing_of (Pairs form) = codes "}" ++ line_end (way_of form)

  abbrev pub begun_of : Frame → Begun Piece Item Key
  begun_of f = record { key = key_of f; parts = parts_from f.shape f.next (thing_in (value_of f.object)).triples; closing = spelled (closing_of f.shape) }

-- the triples that are left of the object of a frame
abbrev pub parts_of : Table → Frame → ℕ
parts_of t f = length (triples_at t f.object) - f.next

-- the k-th value that the object leads to
pub record IsChild (t : Table) (object : Ref) (k : ℕ) (r : Ref) : Type 0 where
  pub label : Label
  pub here : slice_get (triples_at t object) k ≡ Some (label, value_of r)
  pub within : k < length (triples_at t object)
  pub known : IsKnownFrom t object r

-- each frame is of no slot that was published since
abbrev pub AreAtEnd : Table → List Frame → Type 0
AreAtEnd t frames = All (λ f. IsAtEnd t f.object) frames

abbrev pub AreAmong : Below → List Frame → Type 0
AreAmong below frames = All (λ f. IsAmong below f.object) frames

-- more than any object has parts
unfoldable pub breadth : ℕ
breadth = 2 ^ 65

-- the stack has no more levels than it may, and none of its frames is of a slot that was published since
pub record IsFit (t : Table) (levels : ℕ) (frames : List Frame) : Type 0 where
  pub depth : length frames ≤ levels
  pub ends : AreAtEnd t frames

-- what is left to do grew by less than one part of the frame below
pub record IsGrown (t : Table) (levels : ℕ) (frames frames' : List Frame) : Type 0 where
  pub fit : IsFit t levels frames'
  pub light : load (parts_of t) breadth levels frames' < load (parts_of t) breadth levels frames + breadth ^ (suc levels - length frames)

-- a container comes on top, unless it is there or there is no room
abbrev pub IsEntered : ℕ → List ℕ → List ℕ → Frame → List Frame → List Piece → Going → List Frame → List Piece → Type 0
IsEntered levels again opening f frames out On frames' out' =
    MatchBool (list_any (λ e. same_key (key_of f) (key_of e)) frames) ((frames' ≡ frames) × (out' ≡ out ++ spelled again)) ((length frames < levels) × (frames' ≡ frames ++ f ∷ []) × (out' ≡ out ++ spelled opening))
IsEntered levels again opening f frames out GoingDeep frames' out' = (list_any (λ e. same_key (key_of f) (key_of e)) frames ≡ false) × (levels ≤ length frames)
IsEntered levels again opening f frames out GoingShell frames' out' = ⊥

-- the next part of a container was taken, or it was closed
abbrev pub IsTurned : Names → Graph → List Slot → Frame → List ℕ → Option Part → List ℕ → Type 0
IsTurned names g slots top out None out' = ((begun_of names g top).parts ≡ []) × (out' ≡ out ++ closing_of names g top.shape)
IsTurned names g slots top out (Some p) out' =
    (lead : List ℕ) × ((begun_of names g top).parts ≡ (spelled lead, (way_of p.form, resolve slots (value_of p.value))) ∷ (begun_of names g p.frame).parts)
    × (out' ≡ out ++ lead)

-- the container of the part is the one on top, of which less is left
pub record IsPartOf (t : Table) (top : Frame) (p : Part) : Type 0 where
  pub shape : p.frame.shape ≡ top.shape
  pub object : p.frame.object ≡ top.object
  pub less : parts_of t p.frame < parts_of t top
  pub known : IsKnownFrom t top.object p.value

-- what showing a value did, where objects of these classes are asked
module _ (names : Names) (g : Graph) (asks : ℕ → Bool) (levels : ℕ) where
  -- a stack that has written `out`, as what it comes to
  abbrev pub whole_of : List Frame → List Piece → Outcome Piece
  whole_of frames out = whole (look names g asks) same_key (begun_of names g) levels frames out

  -- the same where something comes first
  abbrev pub showing_of : List Frame → List Piece → Item → Outcome Piece
  showing_of frames out i = showing (look names g asks) same_key (begun_of names g) levels frames out i

  -- what the walk comes to: it goes on with these frames, or it ends
  abbrev pub ahead : Going → List Frame → List Piece → Outcome Piece
  ahead On frames out = whole_of frames out
  ahead GoingDeep frames out = Deep
  ahead GoingShell frames out = Shell

  -- what showing a value did
  abbrev pub Showed : List Frame → List Piece → Item → Going → List Frame → List Piece → Type 0
  Showed frames out i now frames' out' = showing_of frames out i ≡ ahead now frames' out'

  -- what a turn did, where `top` was taken off the frames
  abbrev pub Stepped : List Frame → Frame → List Piece → Going → List Frame → List Piece → Type 0
  Stepped frames top out now frames' out' = whole_of (frames ++ top ∷ []) out ≡ ahead now frames' out'

-- what a walk comes to that has nothing left to do
abbrev pub come_to : Going → List Piece → Outcome Piece
come_to On out = Wrote out
come_to GoingDeep out = Deep
come_to GoingShell out = Shell

-- nothing is left to do, unless the walk has ended before
abbrev pub IsEmptied : Going → List Frame → Type 0
IsEmptied On frames = frames ≡ []
IsEmptied GoingDeep frames = Unit {0}
IsEmptied GoingShell frames = Unit {0}
