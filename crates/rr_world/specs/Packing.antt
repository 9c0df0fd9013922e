-- What packing a value of a ractor gives, and why it does not.
use Rattle.std.specs.Prelude.{◌≡◌, ℕ, ◌⊎◌, ◌++◌, List, length, Option, Some, None, Contains, slice_get}
use Rattle.rr_base.specs.declared.fault.Fault.{Fault}
use Rattle.rr_base.specs.declared.fault.Fault.TheVariants as fault
use Rattle.rr_space.specs.Graph.{Object, IsFreeOfShells}
use Rattle.rr_space.specs.Tables.{Table, Packed, IsSealed, joined, message_graph, space_graph, resolve}
use Rattle.rr_space.specs.Moves.{IsCopy, IsPromoted}
use Rattle.rr_space.specs.Parts.{value_of, truth_ref, below_ref, IsWithin}
use Rattle.rr_space.specs.Sound.{IsWell}
use Rattle.rr_space.specs.declared.refer.Ref.{Ref}
use Rattle.rr_space.specs.declared.refer.Ref.TheVariants as ref
use Rattle.rr_share.specs.Search.{LeadsToShell}
use Rattle.rr_copy.specs.Messages.{IsMessageSound}
use Rattle.rr_world.specs.Views.{Member, IsFree}
use Rattle.rr_world.specs.Layouts.{message_below}
use Rattle.rr_world.specs.declared.step.Operand.{Operand}
use Rattle.rr_world.specs.declared.step.Operand.TheVariants as operand
use Rattle.rr_world.specs.declared.outcome.Outcome.{Outcome}
use Rattle.rr_world.specs.declared.outcome.Outcome.TheVariants.{NotEnabled, Done, Refused}

-- the reference that an operand is, where the roots are these
abbrev pub named_ref : List Ref → Operand → Option Ref
named_ref roots operand.Nil = Some ref.Nil
named_ref roots (operand.Truth b) = Some (truth_ref b)
named_ref roots (operand.Int z) = Some (ref.Int z)
named_ref roots (operand.Symbol s) = Some (ref.Symbol s)
named_ref roots (operand.Class c) = Some (ref.Class c)
named_ref roots (operand.Ractor r) = Some (ref.Ractor r)
named_ref roots (operand.Root n) = slice_get roots n

-- the message is a copy of the value
pub record IsPackedFrom (t : Table) (v : Ref) (m : Packed) : Type 0 where
  pub well : IsWell t
  pub within : IsWithin (length t.slots) v
  pub promoted : IsPromoted t (value_of v)
  pub free : IsFreeOfShells (space_graph t) (resolve t.slots (value_of v))
  pub names : List ℕ
  pub copy : IsCopy t (value_of v) names m
  pub sender : m.sender ≡ t.owner
  pub sequence : m.sequence ≡ 0
  pub below : (e : ℕ × List Object) → Contains (message_below m) e → Contains (joined t.below ++ below_ref v) e
  pub sealed : IsSealed (message_graph m)
  pub sound : IsMessageSound m

-- the value leads to no shell, and to a shareable object that is not published
pub record IsNotPacked (t : Table) (v : Ref) : Type 0 where
  pub well : IsWell t
  pub within : IsWithin (length t.slots) v
  pub free : IsFreeOfShells (space_graph t) (resolve t.slots (value_of v))
  pub open_left : IsPromoted t (value_of v) → ⊥

-- the value leads to a shell, or a growth was refused
pub record IsPackRefused (f : Fault) (t : Table) (v : Ref) : Type 0 where
  pub well : IsWell t
  pub within : IsWithin (length t.slots) v
  pub why : (f ≡ fault.Memory) ⊎ ((f ≡ fault.HoldsShell) × LeadsToShell (space_graph t) (resolve t.slots (value_of v)))

-- the hand is not empty, or there is no such root, or the value may not be packed
abbrev pub MayNotPack : Operand → Member → Type 0
MayNotPack op old = (IsFree old → ⊥) ⊎ ((named_ref old.roots op ≡ None) ⊎ ((v : Ref) × (named_ref old.roots op ≡ Some v) × IsNotPacked old.space v))

-- what a pack answers, and what it leaves of the ractor
abbrev pub Packs : Operand → Outcome → Member → Member → Type 0
Packs op NotEnabled old new = MayNotPack op old × (new ≡ old)
Packs op Done old new = (v : Ref) × (m : Packed) × IsFree old × (named_ref old.roots op ≡ Some v) × IsPackedFrom old.space v m × (new ≡ record old { hand = Some m })
Packs op (Refused f) old new = (v : Ref) × IsFree old × (named_ref old.roots op ≡ Some v) × IsPackRefused f old.space v × (new ≡ old)
