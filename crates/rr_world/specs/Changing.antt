-- What a change of one object, or a read, leaves of a ractor.
use Rattle.std.specs.Prelude.{◌≡◌, ℕ, ◌⊎◌, ◌++◌, List, ◌∷◌, [], length, IsTrue, Some, Contains, slice_get, slice_set}
use Rattle.rr_base.specs.declared.fault.Fault.TheVariants.{Memory}
use Rattle.rr_space.specs.Graph.{Object, Label, Value, text, array, exception}
use Rattle.rr_space.specs.Tables.{Table, Here, joined}
use Rattle.rr_space.specs.Readings.{Layout, Knows}
use Rattle.rr_space.specs.Parts.{value_of, below_ref, IsWithin}
use Rattle.rr_space.specs.Kinds.{kind_at}
use Rattle.rr_space.specs.Sound.{IsWell}
use Rattle.rr_space.specs.Views.{can_write_at, IsKnownFrom}
use Rattle.rr_space.specs.Labels.{triples_at, IsFirstUnder}
use Rattle.rr_space.specs.declared.kind.Kind.TheVariants.{Array, Text}
use Rattle.rr_space.specs.declared.kind.Kind.TheVariants as kinds
use Rattle.rr_space.specs.declared.refer.Ref.{Ref}
use Rattle.rr_space.specs.declared.refer.Ref.TheVariants.{Local}
use Rattle.rr_world.specs.Views.{Member, ArePlacesBelow, AreRootsWithin, AreAway, IsPublishedFit, seen_slots}
use Rattle.rr_world.specs.Layouts.{AreKeysKnown}
use Rattle.rr_world.specs.Enabling.{IsNoShell, IsOpen, HasElement, HasFields}
use Rattle.rr_world.specs.ObjectCases.{frozen, appended, cleared, pushed, written, without, with_field, with_part}
use Rattle.rr_world.specs.Packing.{named_ref}
use Rattle.rr_world.specs.declared.step.Operand.{Operand}
use Rattle.rr_world.specs.declared.outcome.Outcome.{Outcome}
use Rattle.rr_world.specs.declared.outcome.Outcome.TheVariants.{NotEnabled, Done, Refused}
use Rattle.rr_world.specs.declared.step.RaisedPart.{RaisedPart}

-- the operand is the slot n of the space, and the object there, which is the ractor's own still, is o
pub record IsSlot (op : Operand) (old : Member) (n : ℕ) (o : Object) : Type 0 where
  pub named : named_ref old.roots op ≡ Some (Local n)
  pub here : slice_get (seen_slots old) n ≡ Some (Here o)

abbrev pub MayChangeSlot : Operand → (Object → Type 0) → Member → Type 0
MayChangeSlot op may old = (n : ℕ) × (o : Object) × IsSlot op old n o × may o

-- a reference of the list leads to the cluster
abbrev pub LeadTo : List Ref → ℕ × List Object → Type 0
LeadTo vs e = (v : Ref) × Contains vs v × Contains (below_ref v) e

-- where what the space and the values know of clusters is what the store has, the keys of hashes stay those of their key objects
abbrev pub DoKeysStay : List Ref → Table → Table → Type 0
DoKeysStay vs old now = (tables : Layout) → Knows (joined old.below) tables → ((v : Ref) → Contains vs v → Knows (below_ref v) tables)
    → AreKeysKnown tables old.slots old.keys → AreKeysKnown tables now.slots now.keys

-- p stands in the slot n; what the space knows of clusters it knew, or came with one of the values
pub record IsRewritten (n : ℕ) (p : Object) (vs : List Ref) (old now : Member) : Type 0 where
  pub within : AreRootsWithin (length old.space.slots) old.roots
  pub values : AreRootsWithin (length old.space.slots) vs
  pub slots : now.space.slots ≡ slice_set old.space.slots n (Here p)
  pub below : (e : ℕ × List Object) → Contains (joined now.space.below) e → Contains (joined old.space.below) e ⊎ LeadTo vs e
  pub keyed : DoKeysStay vs old.space now.space
  pub limit : now.space.limit ≡ old.space.limit
  pub roots : now.roots ≡ old.roots
  pub hand : now.hand ≡ old.hand
  pub home : now.home ≡ old.home
  pub ticket : now.ticket ≡ old.ticket
  pub plan : now.plan ≡ old.plan
  pub planned : ArePlacesBelow (length old.space.slots) old.plan
  pub published : now.published ≡ old.published
  pub fit : IsPublishedFit old.space old.published
  pub away : AreAway old.space.slots old.hand old.home
  pub next : now.space.next_message ≡ old.space.next_message
  pub owner : now.space.owner ≡ old.space.owner
  pub limits : now.limits ≡ old.limits
  pub runs : now.runs ≡ old.runs

-- the object that the operand is, where it may be changed, is what the change makes of it, with values that came in
abbrev pub IsMadeOf : Operand → (Object → Type 0) → (Object → Object) → List Ref → Member → Member → Type 0
IsMadeOf op may change vs old now = (n : ℕ) × (o : Object) × IsSlot op old n o × may o × IsRewritten n (change o) vs old now

abbrev pub HasRootsWithin : Member → Type 0
HasRootsWithin old = AreRootsWithin (length old.space.slots) old.roots

abbrev pub Freezes : Operand → Outcome → Member → Member → Type 0
Freezes op NotEnabled old now = HasRootsWithin old × (MayChangeSlot op IsNoShell old → ⊥) × (now ≡ old)
Freezes op Done old now = IsMadeOf op IsNoShell frozen [] old now
Freezes op _ old now = ⊥

-- the operand is a text of the space that is not frozen
abbrev pub MayBeAppended : Operand → Member → Type 0
MayBeAppended op old = MayChangeSlot op (IsOpen text) old

pub record IsWritableText (op : Operand) (old : Member) (a : Ref) : Type 0 where
  pub text : named_ref old.roots op ≡ Some a
  pub can : IsTrue (can_write_at old.space a)
  pub kind : kind_at old.space a ≡ Text

abbrev pub Appends : Operand → ℕ → Outcome → Member → Member → Type 0
Appends op byte NotEnabled old now = HasRootsWithin old × (MayBeAppended op old → ⊥) × (now ≡ old)
Appends op byte Done old now = IsMadeOf op (IsOpen text) (appended byte) [] old now
Appends op byte (Refused f) old now = (f ≡ Memory) × MayBeAppended op old × (now ≡ old)

abbrev pub Clears : Operand → Outcome → Member → Member → Type 0
Clears op NotEnabled old now = HasRootsWithin old × (MayBeAppended op old → ⊥) × (now ≡ old)
Clears op Done old now = IsMadeOf op (IsOpen text) cleared [] old now
Clears op _ old now = ⊥

-- the operand is this value
abbrev pub IsNamedRef : Operand → Member → Type 0
IsNamedRef op old = (v : Ref) × (named_ref old.roots op ≡ Some v)

-- the operand is an array of the space that is not frozen
abbrev pub MayBePushed : Operand → Member → Type 0
MayBePushed op old = MayChangeSlot op (IsOpen array) old

-- the operands are an array that is not frozen, and a value
pub record AreWritable (op x : Operand) (old : Member) (a v : Ref) : Type 0 where
  pub array : named_ref old.roots op ≡ Some a
  pub value : named_ref old.roots x ≡ Some v
  pub can : IsTrue (can_write_at old.space a)
  pub kind : kind_at old.space a ≡ Array
  pub within : IsWithin (length old.space.slots) v

abbrev pub Pushes : Operand → Operand → Outcome → Member → Member → Type 0
Pushes op x NotEnabled old now = HasRootsWithin old × (MayBePushed op old → IsNamedRef x old → ⊥) × (now ≡ old)
Pushes op x Done old now = (v : Ref) × (named_ref old.roots x ≡ Some v) × IsMadeOf op (IsOpen array) (pushed (value_of v)) (v ∷ []) old now
Pushes op x (Refused f) old now = (f ≡ Memory) × MayBePushed op old × IsNamedRef x old × (now ≡ old)

abbrev pub Writes : Operand → ℕ → Operand → Outcome → Member → Member → Type 0
Writes op i x NotEnabled old now = HasRootsWithin old × (MayChangeSlot op (HasElement i) old → IsNamedRef x old → ⊥) × (now ≡ old)
Writes op i x Done old now = (v : Ref) × (named_ref old.roots x ≡ Some v) × IsMadeOf op (HasElement i) (written i (value_of v)) (v ∷ []) old now
Writes op i x _ old now = ⊥

abbrev pub Takes : Operand → ℕ → Outcome → Member → Member → Type 0
Takes op i NotEnabled old now = HasRootsWithin old × (MayChangeSlot op (HasElement i) old → ⊥) × (now ≡ old)
Takes op i Done old now = IsMadeOf op (HasElement i) (without i) [] old now
Takes op i _ old now = ⊥

-- the operand is an object of the space with fields that is not frozen
abbrev pub MayBeSet : Operand → Member → Type 0
MayBeSet op old = MayChangeSlot op HasFields old

-- the operands are a plain object or an exception that is not frozen, and a value
pub record AreSettable (op x : Operand) (old : Member) (a v : Ref) : Type 0 where
  pub object : named_ref old.roots op ≡ Some a
  pub value : named_ref old.roots x ≡ Some v
  pub can : IsTrue (can_write_at old.space a)
  pub kind : (kind_at old.space a ≡ kinds.Object) ⊎ (kind_at old.space a ≡ kinds.Exception)
  pub within : IsWithin (length old.space.slots) v

abbrev pub Sets : Operand → ℕ → Operand → Outcome → Member → Member → Type 0
Sets op name x NotEnabled old now = HasRootsWithin old × (MayBeSet op old → IsNamedRef x old → ⊥) × (now ≡ old)
Sets op name x Done old now = (v : Ref) × (named_ref old.roots x ≡ Some v) × IsMadeOf op HasFields (with_field name (value_of v)) (v ∷ []) old now
Sets op name x (Refused f) old now = (f ≡ Memory) × MayBeSet op old × IsNamedRef x old × (now ≡ old)

-- the operand is an exception of the space that is not frozen
abbrev pub MayBeRaised : Operand → Member → Type 0
MayBeRaised op old = MayChangeSlot op (IsOpen exception) old

-- the operands are an exception that is not frozen, and a value
pub record AreRaisable (op x : Operand) (old : Member) (a v : Ref) : Type 0 where
  pub exception : named_ref old.roots op ≡ Some a
  pub value : named_ref old.roots x ≡ Some v
  pub can : IsTrue (can_write_at old.space a)
  pub kind : kind_at old.space a ≡ kinds.Exception
  pub within : IsWithin (length old.space.slots) v

abbrev pub SetsRaised : Operand → RaisedPart → Operand → Outcome → Member → Member → Type 0
SetsRaised op part x NotEnabled old now = HasRootsWithin old × (MayBeRaised op old → IsNamedRef x old → ⊥) × (now ≡ old)
SetsRaised op part x Done old now = (v : Ref) × (named_ref old.roots x ≡ Some v) × IsMadeOf op (IsOpen exception) (with_part part (value_of v)) (v ∷ []) old now
SetsRaised op part x _ old now = ⊥

-- something stands under the label in the object that the operand is
abbrev pub HasUnder : Operand → Label → Member → Type 0
HasUnder op l old = (v : Ref) × (x : Value) × (named_ref old.roots op ≡ Some v) × Contains (triples_at old.space v) (l, x)

-- what stands under the label comes last in the roots
pub record IsReadBy (op : Operand) (l : Label) (v r : Ref) (old now : Member) : Type 0 where
  pub within : AreRootsWithin (length old.space.slots) old.roots
  pub named : named_ref old.roots op ≡ Some v
  pub first : IsFirstUnder (triples_at old.space v) l (value_of r)
  pub root : IsWithin (length old.space.slots) r
  pub known : IsKnownFrom old.space v r
  pub fit : IsPublishedFit old.space old.published
  pub now_is : now ≡ record old { roots = old.roots ++ r ∷ [] }

abbrev pub Reads : Operand → Label → Outcome → Member → Member → Type 0
Reads op l NotEnabled old now = IsWell old.space × HasRootsWithin old × IsPublishedFit old.space old.published × (HasUnder op l old → ⊥) × (now ≡ old)
Reads op l Done old now = (v : Ref) × (r : Ref) × IsReadBy op l v r old now
Reads op l (Refused f) old now = (f ≡ Memory) × IsPublishedFit old.space old.published × HasUnder op l old × (now ≡ old)
