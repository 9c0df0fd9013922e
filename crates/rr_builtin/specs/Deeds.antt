-- Deeds of the code, and the acts that they are.
use Rattle.std.specs.Prelude.{◌≡◌, ◌<◌, ◌≤◌, ◌-◌, ◌++◌, ℕ, List, [], ◌∷◌, IsTrue, length, map, Some, Contains}
use Rattle.std.specs.List.{All}
use Rattle.rr_space.specs.Tables.{Table, Below, HashKey, TextKey}
use Rattle.rr_space.specs.Parts.{value_of, IsWithin}
use Rattle.rr_space.specs.Graph.{Object}
use Rattle.rr_space.specs.Views.{can_write_at, keys_at, key_of, object_of, node_keys, below_node, IsFirstAt, IsNodeWithin, AreFieldsDistinct}
use Rattle.rr_space.specs.Lookups.{key_at}
use Rattle.rr_space.specs.Kinds.{kind_at}
use Rattle.rr_space.specs.Labels.{triples_at}
use Rattle.rr_space.specs.declared.kind.Kind.TheVariants.{Text, Array, Hash}
use Rattle.rr_space.specs.declared.refer.Ref.{Ref}
use Rattle.rr_builtin.specs.declared.deed.Deed.{Deed}
use Rattle.rr_builtin.specs.declared.deed.Deed.TheVariants.{Answer, Make, Freeze, Append, Push, Take, MakeArray, Put, Refill, SetValue, AddPair, AddText, TakePair, MakeNode}
use Rattle.rr_builtin.specs.Elements.{elements_of}
use Rattle.rr_builtin.specs.Acts.{Act, Answers, Makes, Freezes, Appends, Pushes, Takes, MakesArray, Puts, SetsValue, AddsPair, AddsText, TakesPair, MakesObject, nils, outcome_of, IsRefAmong, IsBuiltWithin, IsBuiltAmong}

abbrev pub act_of : Deed → Act
act_of (Answer b) = Answers (outcome_of b)
act_of (Make bytes) = Makes bytes.items
act_of Freeze = Freezes
act_of (Append bytes) = Appends bytes.items
act_of (Push r) = Pushes (value_of r)
act_of (Take k) = Takes k
act_of (MakeArray items) = MakesArray (map value_of items.items)
act_of (Put k r) = Puts k (value_of r)
act_of (Refill items k r) = Puts k (value_of r)
act_of (SetValue key i r) = SetsValue i (value_of r)
act_of (AddPair key name r) = AddsPair (value_of name) (key_of key) (value_of r)
act_of (AddText bytes r) = AddsText bytes.items (value_of r)
act_of (TakePair i) = TakesPair i
act_of (MakeNode node) = MakesObject (object_of node) (node_keys node)

-- the elements that the array has once a value stands under a place behind them
pub record IsRefilled (t : Table) (v : Ref) (items : List Ref) (k : ℕ) (r : Ref) : Type 0 where
  pub within : All (IsWithin (length t.slots)) items
  pub behind : length (triples_at t v) ≤ k
  pub values : map value_of items ≡ elements_of t v ++ (nils (k - length (triples_at t v)) ++ value_of r ∷ [])

abbrev pub IsWritableHash : Table → Ref → Type 0
IsWritableHash t v = IsTrue (can_write_at t v) × (kind_at t v ≡ Hash)

-- the hash has no pair with the key
abbrev pub LacksKey : Table → Ref → HashKey → Type 0
LacksKey t v key = (ks : List HashKey) → keys_at t v ≡ Some ks → Contains ks key → ⊥

-- the hash has so many keys that one is at the place
abbrev pub HasPair : Table → Ref → ℕ → Type 0
HasPair t v i = (ks : List HashKey) → keys_at t v ≡ Some ks → i < length ks

-- the deed may be done: what is written may be written, is of the kind, and leads nowhere outside
abbrev pub IsFit : Table → Ref → Deed → Type 0
IsFit t v (Answer b) = IsBuiltWithin (length t.slots) b
IsFit t v (Make bytes) = Unit {0}
IsFit t v Freeze = Unit {0}
IsFit t v (Append bytes) = IsTrue (can_write_at t v) × (kind_at t v ≡ Text)
IsFit t v (Push r) = IsTrue (can_write_at t v) × (kind_at t v ≡ Array) × IsWithin (length t.slots) r
IsFit t v (Take k) = IsTrue (can_write_at t v) × (kind_at t v ≡ Array) × (k < length (triples_at t v))
IsFit t v (MakeArray items) = All (IsWithin (length t.slots)) items.items
IsFit t v (Put k r) = IsTrue (can_write_at t v) × (kind_at t v ≡ Array) × IsWithin (length t.slots) r × (k ≤ length (triples_at t v))
IsFit t v (SetValue key i r) = IsWritableHash t v × IsWithin (length t.slots) r × ((ks : List HashKey) → keys_at t v ≡ Some ks → IsFirstAt ks (key_of key) i)
IsFit t v (AddPair key name r) = IsWritableHash t v × IsWithin (length t.slots) r × IsWithin (length t.slots) name × (key_at t name ≡ Some (key_of key)) × LacksKey t v (key_of key)
IsFit t v (AddText bytes r) = IsWritableHash t v × IsWithin (length t.slots) r × LacksKey t v (TextKey bytes.items)
IsFit t v (MakeNode node) = IsNodeWithin (length t.slots) node × AreFieldsDistinct node
IsFit t v (TakePair i) = IsWritableHash t v × HasPair t v i
IsFit t v (Refill items k r) = IsTrue (can_write_at t v) × (kind_at t v ≡ Array) × IsWithin (length t.slots) r × IsRefilled t v items.items k r

-- each cluster that the deed brings is one of these
abbrev pub IsDeedAmong : Below → Deed → Type 0
IsDeedAmong below (Answer b) = IsBuiltAmong below b
IsDeedAmong below (Make bytes) = Unit {0}
IsDeedAmong below Freeze = Unit {0}
IsDeedAmong below (Append bytes) = Unit {0}
IsDeedAmong below (Push r) = IsRefAmong below r
IsDeedAmong below (Take k) = Unit {0}
IsDeedAmong below (MakeArray items) = All (IsRefAmong below) items.items
IsDeedAmong below (Put k r) = IsRefAmong below r
IsDeedAmong below (SetValue key i r) = IsRefAmong below r
IsDeedAmong below (AddPair key name r) = IsRefAmong below name × IsRefAmong below r
IsDeedAmong below (AddText bytes r) = IsRefAmong below r
IsDeedAmong below (TakePair i) = Unit {0}
IsDeedAmong below (MakeNode node) = (e : ℕ × List Object) → Contains (below_node node) e → Contains below e
IsDeedAmong below (Refill items k r) = All (IsRefAmong below) items.items × IsRefAmong below r
