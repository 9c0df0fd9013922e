-- What setting and deleting a pair of a hash leaves of a ractor.
use Rattle.std.specs.Prelude.{◌≡◌, ℕ, ◌⊎◌, List, ◌∷◌, [], length, IsTrue, IsSome, Some, slice_get, Contains}
use Rattle.rr_base.specs.declared.fault.Fault.TheVariants.{Memory}
use Rattle.rr_space.specs.Graph.{hash}
use Rattle.rr_space.specs.Parts.{value_of, IsWithin}
use Rattle.rr_space.specs.Kinds.{kind_at}
use Rattle.rr_space.specs.Sound.{IsWell}
use Rattle.rr_space.specs.Views.{can_write_at}
use Rattle.rr_space.specs.Lookups.{key_at, AreDistinct}
use Rattle.rr_space.specs.Tables.{HashKey}
use Rattle.rr_space.specs.declared.kind.Kind.TheVariants as kinds
use Rattle.rr_space.specs.declared.refer.Ref.{Ref}
use Rattle.rr_space.specs.declared.refer.Ref.TheVariants.{Local}
use Rattle.rr_world.specs.Views.{Member, IsPublishedFit}
use Rattle.rr_world.specs.Enabling.{IsOpen, HasPair, HasPairs}
use Rattle.rr_world.specs.ObjectCases.{with_value, with_pair, without_pair}
use Rattle.rr_world.specs.Packing.{named_ref}
use Rattle.rr_world.specs.Changing.{MayChangeSlot, IsMadeOf, IsNamedRef, HasRootsWithin}
use Rattle.rr_world.specs.declared.step.Operand.{Operand}
use Rattle.rr_world.specs.declared.outcome.Outcome.{Outcome}
use Rattle.rr_world.specs.declared.outcome.Outcome.TheVariants.{NotEnabled, Done, Refused}

-- the operand is a hash of the space that is not frozen
abbrev pub MayBePaired : Operand → Member → Type 0
MayBePaired op old = MayChangeSlot op (IsOpen hash) old

pub record IsWritableHash (op : Operand) (old : Member) (a : Ref) : Type 0 where
  pub hash : named_ref old.roots op ≡ Some a
  pub can : IsTrue (can_write_at old.space a)
  pub kind : kind_at old.space a ≡ kinds.Hash

-- the operand is this value, which can be a key of a hash
pub record IsKeyRef (op : Operand) (old : Member) (v : Ref) : Type 0 where
  pub named : named_ref old.roots op ≡ Some v
  pub key : IsSome (key_at old.space v)
  pub within : IsWithin (length old.space.slots) v

abbrev pub HasKeyRef : Operand → Member → Type 0
HasKeyRef op old = (v : Ref) × IsKeyRef op old v

-- what the reading of a key's object takes: no reference leads nowhere
pub record IsReadable (old : Member) : Type 0 where
  pub well : IsWell old.space
  pub roots : HasRootsWithin old
  pub fit : IsPublishedFit old.space old.published

-- the hash that the operand is has these keys, each once
pub record HasKeys (op : Operand) (old : Member) (ks : List HashKey) : Type 0 where
  pub slot : ℕ
  pub named : named_ref old.roots op ≡ Some (Local slot)
  pub here : slice_get old.space.keys slot ≡ Some ks
  pub distinct : AreDistinct ks

-- the pair of the hash that has the key gets the value
abbrev pub IsValueMade : Operand → HashKey → List HashKey → Ref → Ref → Member → Member → Type 0
IsValueMade op key ks r v old now = (i : ℕ) × (slice_get ks i ≡ Some key) × IsMadeOf op (HasPair i) (with_value i (value_of v)) (r ∷ v ∷ []) old now

-- no pair has the key, and one of the key object and the value comes behind all
abbrev pub IsPairAdded : Operand → HashKey → List HashKey → Ref → Ref → Member → Member → Type 0
IsPairAdded op key ks r v old now = (Contains ks key → ⊥) × (n : ℕ) × IsMadeOf op (HasPairs n) (with_pair n (value_of r) (value_of v)) (r ∷ v ∷ []) old now

-- one or the other, with the key that the key object is
abbrev pub IsPairMade : Operand → Ref → Ref → Member → Member → Type 0
IsPairMade op r v old now = (key : HashKey) × (ks : List HashKey) × (key_at old.space r ≡ Some key) × HasKeys op old ks × (IsValueMade op key ks r v old now ⊎ IsPairAdded op key ks r v old now)

abbrev pub SetsPair : Operand → Operand → Operand → Outcome → Member → Member → Type 0
SetsPair op key x NotEnabled old now = IsReadable old × (MayBePaired op old → HasKeyRef key old → IsNamedRef x old → ⊥) × (now ≡ old)
SetsPair op key x Done old now = (r v : Ref) × IsReadable old × IsKeyRef key old r × (named_ref old.roots x ≡ Some v) × IsPairMade op r v old now
SetsPair op key x (Refused f) old now = (f ≡ Memory) × IsReadable old × MayBePaired op old × HasKeyRef key old × IsNamedRef x old × (now ≡ old)

abbrev pub DeletesPair : Operand → ℕ → Outcome → Member → Member → Type 0
DeletesPair op i NotEnabled old now = HasRootsWithin old × (MayChangeSlot op (HasPair i) old → ⊥) × (now ≡ old)
DeletesPair op i Done old now = IsMadeOf op (HasPair i) (without_pair i) [] old now
DeletesPair op i _ old now = ⊥
