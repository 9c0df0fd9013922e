-- What is published of the objects of a ractor, and what a frozen copy is.
use Rattle.std.specs.Prelude.{◌≡◌, ◌↔◌, ◌⊎◌, ◌≤◌, ◌<◌, ◌+◌, ℕ, false, List, [], ◌∷◌, ◌++◌, length, map, Contains, Some, slice_get, slice_set}
use Rattle.rr_base.specs.declared.fault.Fault.{Fault}
use Rattle.rr_base.specs.declared.fault.Fault.TheVariants.{Memory, Limit, HistoryFull, HoldsShell}
use Rattle.rr_base.specs.declared.limits.LimitKind.TheVariants.{Slots}
use Rattle.rr_base.specs.declared.event.StoreEvent.TheVariants.{Published}
use Rattle.rr_space.specs.Graph.{Object, Value, Own, At, Reaches, IsShareable, array}
use Rattle.rr_space.specs.Moves.{IsCopy, IsDeepFrozen, IsOpened, IsPlanned, IsPromoted, IsPromotedTo}
use Rattle.rr_space.specs.Sound.{IsWholeSound}
use Rattle.rr_space.specs.Tables.{Here, Whole, Table, Packed, IsRestKept, joined, resolve, space_graph}
use Rattle.rr_space.specs.Views.{IsLedAlso}
use Rattle.rr_share.specs.Search.{LeadsToShell}
use Rattle.rr_store.specs.Stores.{Store, HasEvent}
use Rattle.rr_store.specs.Answers.{numbered_next}
use Rattle.rr_builtin.specs.Acts.{array_object, with_put}
use Rattle.rr_eval.specs.Owners.{owner_of}
use Rattle.rr_eval.specs.Responses.{registry_slot}

-- ---- Where it is written down which objects were published.

abbrev pub own_value : ℕ → Value
own_value n = At (Own n)

-- the array of these slots
abbrev pub slots_array : List ℕ → Object
slots_array places = array_object (map own_value places)

-- the registry is an array that may be written, and has an element for each cluster before this one
pub record IsRegistry (c : ℕ) (t : Table) (o : Object) : Type 0 where
  pub here : slice_get t.slots registry_slot ≡ Some (Here o)
  pub writable : o.frozen ≡ false
  pub kind : o.kind ≡ array
  pub room : c ≤ length o.triples

-- the array of the slots came behind all objects, and is the registry's element of that number; all else is as it was
pub record IsNoted (c : ℕ) (places : List ℕ) (t noted : Table) : Type 0 where
  pub object : Object
  pub is : IsRegistry c t object
  pub slots : noted.slots ≡ slice_set (t.slots ++ Here (slots_array places) ∷ []) registry_slot (Here (with_put c (At (Own (length t.slots))) object))
  pub below : IsLedAlso [] registry_slot (t.below ++ [] ∷ []) noted.below
  pub keys : noted.keys ≡ t.keys ++ [] ∷ []
  pub rest : IsRestKept t noted

-- the slots are written down where there is a registry for them, and else nothing changes
abbrev pub Notes : ℕ → List ℕ → Table → Table → Type 0
Notes c places t noted = IsNoted c places t noted ⊎ (((o : Object) → IsRegistry c t o → ⊥) × (noted ≡ t))

-- ---- What is published.

-- the cluster is the store's next one. The slots of its objects are written down, and then they are forwards to it
pub record IsPublishedAs (w : Whole) (places : List ℕ) (s : Store) (t : Table) (u : Store) (new : Table) : Type 0 where
  pub noted : Table
  pub notes : Notes (length s.clusters) places t noted
  pub planned : IsPlanned noted w places
  pub room : HasEvent s
  pub clusters : u.clusters ≡ s.clusters ++ numbered_next s w ∷ []
  pub history : u.history ≡ s.history ++ Published (length s.clusters) (length w.own) (owner_of t) ∷ []
  pub promoted : IsPromotedTo (numbered_next s w) places noted new

-- the value leads to no shareable object of the space, and nothing changes
pub record HasNothingNew (s : Store) (t : Table) (v : Value) (u : Store) (new : Table) : Type 0 where
  pub promoted : IsPromoted t v
  pub store : u ≡ s
  pub table : new ≡ t

-- exactly the shareable objects of the space that the value leads to are published in one cluster
pub record IsPublishedOf (s : Store) (t : Table) (v : Value) (u : Store) (new : Table) : Type 0 where
  pub cluster : Whole
  pub places : List ℕ
  pub exact : (n : ℕ) → Contains places n ↔ (Reaches (space_graph t) (resolve t.slots v) (Own n) × IsShareable (space_graph t) (At (Own n)))
  pub some : places ≡ [] → ⊥
  pub planned : IsPlanned t cluster places
  pub below : (e : ℕ × List Object) → Contains cluster.below e → Contains (joined t.below) e
  pub sound : IsWholeSound cluster
  pub done : IsPublishedAs cluster places s t u new

-- the shareable objects of the space that the value leads to are published, if there are such
abbrev pub IsPublishing : Store → Table → Value → Store → Table → Type 0
IsPublishing s t v u new = HasNothingNew s t v u new ⊎ IsPublishedOf s t v u new

-- nothing was published: each object is as it was but the registry, and an array may have come
pub record IsUnpublished (t u : Table) : Type 0 where
  pub slots : (n : ℕ) → n < length t.slots → (registry_slot ≡ n → ⊥) → slice_get u.slots n ≡ slice_get t.slots n
  pub grows : length t.slots ≤ length u.slots
  pub rest : IsRestKept t u

-- why nothing is published; no other fault is answered
abbrev pub IsPublishRefusal : Fault → Store → Table → Value → Type 0
IsPublishRefusal Memory s t v = Unit {0}
IsPublishRefusal (Limit Slots) s t v = length t.slots ≡ t.limit
IsPublishRefusal HistoryFull s t v = HasEvent s → ⊥
IsPublishRefusal HoldsShell s t v = LeadsToShell (space_graph t) (resolve t.slots v)
IsPublishRefusal _ s t v = ⊥

-- ---- Frozen copies.

-- w is a copy of what v leads to, which came behind the objects that were there, and is frozen throughout
pub record IsFrozenCopy (v : Value) (t : Table) (w : Value) (new : Table) : Type 0 where
  pub message : Packed
  pub names : List ℕ
  pub opened : Table
  pub copy : IsCopy t v names message
  pub comes : IsOpened message t opened w
  pub frozen : IsDeepFrozen w opened new
  pub keys : new.keys ≡ opened.keys
  pub rest : IsRestKept t new

-- there would be more slots with a copy of what the value leads to than there may be
pub record IsTooMany (v : Value) (t : Table) : Type 0 where
  pub message : Packed
  pub names : List ℕ
  pub copy : IsCopy t v names message
  pub many : t.limit < length t.slots + length message.objects

-- why nothing is copied; no other fault is answered
abbrev pub IsCopyRefusal : Fault → Table → Value → Type 0
IsCopyRefusal Memory t v = Unit {0}
IsCopyRefusal (Limit Slots) t v = IsTooMany v t
IsCopyRefusal HoldsShell t v = LeadsToShell (space_graph t) (resolve t.slots v)
IsCopyRefusal _ t v = ⊥
