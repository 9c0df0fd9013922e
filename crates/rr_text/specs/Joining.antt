-- The text of an array whose elements are joined: arrays in it are joined alike, and all else is written as by `to_s`.
use Rattle.std.specs.Prelude.{◌≡◌, ℕ, suc, Bool, false, ◌+◌, ◌-◌, ◌^◌, ◌<◌, ◌≤◌, List, [], ◌∷◌, drop, length}
use Rattle.std.specs.List.{All}
use Rattle.rr_space.specs.Graph.{Graph, Value}
use Rattle.rr_space.specs.Tables.{Table, Slot, Below, resolve}
use Rattle.rr_space.specs.Parts.{value_of}
use Rattle.rr_space.specs.Labels.{triples_at}
use Rattle.rr_space.specs.declared.kind.Kind.{Kind}
use Rattle.rr_space.specs.declared.kind.Kind.TheVariants as kind
use Rattle.rr_text.specs.Walk.{Outcome, Walked, Wrote, Deep, Circular, Shell, Look, Leaf, Branch, walk}
use Rattle.rr_text.specs.Forms.{Names, Piece, spelled, spoken, pieced, unanswered}
use Rattle.rr_text.specs.Same.{same_value, kind_in, triples_in}
use Rattle.rr_text.specs.Comparing.{values_in}
use Rattle.rr_text.specs.Reads.{IsAmong}
use Rattle.rr_text.specs.Rest.{Begun, whole, showing, load}
use Rattle.rr_text.specs.Frames.{breadth, lead_at}
use Rattle.rr_text.specs.declared.walk.Frame.{Frame}
use Rattle.rr_text.specs.declared.joining.Opened.{Opened}
use Rattle.rr_text.specs.declared.joining.Going.{Going}
use Rattle.rr_text.specs.declared.joining.Going.TheVariants as going
use Rattle.rr_text.specs.declared.joining.Joined.{Joined}
use Rattle.rr_text.specs.declared.joining.Joined.TheVariants as text

-- a value, and how many arrays it stands in
abbrev pub Joint : Type 0
Joint = ℕ × Value

-- values in so many arrays, each after what stands before it: `lead` before the first of them, the separator before all others
abbrev pub joined_parts : List ℕ → ℕ → List ℕ → List Value → List (List Piece × Joint)
joined_parts separator depth lead [] = []
joined_parts separator depth lead (v ∷ vs) = (spelled lead, (depth, v)) ∷ joined_parts separator depth separator vs

module _ (names : Names) (g : Graph) where
  module _ (asks : ℕ → Bool) (levels : ℕ) (separator : List ℕ) where
    -- an array inside itself has no text; what is no array has its own, in which as many containers may be begun as are left
    abbrev pub joined_look : Kind → Joint → Look Piece Joint Value
    joined_look kind.Array i = Branch i.1 Circular [] (joined_parts separator (suc i.0) [] (values_in (triples_in g i.1))) []
    joined_look _ i = Leaf (pieced names g asks (levels - i.0) spoken i.1)

    -- what is joined at a value
    unfoldable pub look_joined : Joint → Look Piece Joint Value
    look_joined i = joined_look (kind_in g i.1) i

    -- the pieces of an array, where objects of these classes are asked and so many containers may be begun inside one another
    unfoldable pub joint : Value → Outcome Piece
    joint v = walk look_joined same_value levels [] (0, v)

  -- the text of an array where no object is asked
  unfoldable pub joined : ℕ → List ℕ → Value → Walked
  joined levels separator v = unanswered (joint (λ c. false) levels separator v)

abbrev pub outcome_of : Joined → Walked
outcome_of (text.Bytes bytes) = Wrote bytes.items
outcome_of text.Deep = Deep
outcome_of text.Circular = Circular
outcome_of text.Shell = Shell

-- what writing a value comes to
abbrev pub come_to : Going → List Piece → Outcome Piece
come_to going.On out = Wrote out
come_to going.Deep out = Deep
come_to going.Circular out = Circular
come_to going.Shell out = Shell

-- no container is being written, unless the walk has ended
abbrev pub IsEmptied : Going → List Frame → Type 0
IsEmptied going.On frames = frames ≡ []
IsEmptied going.Deep frames = Unit {0}
IsEmptied going.Circular frames = Unit {0}
IsEmptied going.Shell frames = Unit {0}

-- ---- The arrays that are being joined.

abbrev pub key_of : List Slot → Opened → Value
key_of slots f = resolve slots (value_of f.array)

-- each of them with how many there are up to it, where there are so many before the first
abbrev pub numbered : ℕ → List Opened → List (ℕ × Opened)
numbered k [] = []
numbered k (f ∷ fs) = (suc k, f) ∷ numbered (suc k) fs

module _ (names : Names) (g : Graph) (asks : ℕ → Bool) (levels : ℕ) (separator : List ℕ) (slots : List Slot) where
  abbrev pub begun_of : ℕ × Opened → Begun Piece Joint Value
  begun_of f = record {
    key = key_of slots f.1;
    parts = joined_parts separator f.0 (lead_at f.1.next separator) (drop f.1.next (values_in (triples_in g (key_of slots f.1))));
    closing = [];
  }

  -- a stack that has written `out`
  abbrev pub whole_of : List Opened → List Piece → Outcome Piece
  whole_of fs out = whole (look_joined names g asks levels separator) same_value begun_of levels (numbered 0 fs) out

  -- the same where a value comes first
  abbrev pub showing_of : List Opened → List Piece → Value → Outcome Piece
  showing_of fs out v = showing (look_joined names g asks levels separator) same_value begun_of levels (numbered 0 fs) out (length fs, v)

  -- what the walk comes to: it goes on with these arrays, or it ends
  abbrev pub ahead : Going → List Opened → List Piece → Outcome Piece
  ahead going.On fs out = whole_of fs out
  ahead going.Deep fs out = Deep
  ahead going.Circular fs out = Circular
  ahead going.Shell fs out = Shell

-- the elements that are left
abbrev pub rest_of : Table → Opened → ℕ
rest_of t f = length (triples_at t f.array) - f.next

abbrev pub AreAmong : Below → List Opened → Type 0
AreAmong below fs = All (λ (f : Opened). IsAmong below f.array) fs

-- what is left to do grew by less than one element of the array below
pub record IsGrown (t : Table) (levels : ℕ) (fs fs' : List Opened) : Type 0 where
  pub fit : length fs' ≤ levels
  pub light : load (rest_of t) breadth levels fs' < load (rest_of t) breadth levels fs + breadth ^ (suc levels - length fs)
