-- What moving a value into the hand, and putting it back, leave of a ractor.
use Rattle.std.specs.Prelude.{◌≡◌, ℕ, ◌⊎◌, ◌+◌, ◌-◌, ◌^◌, ◌≤◌, ◌++◌, List, length, None, Some, Contains, slice_get}
use Rattle.rr_base.specs.declared.fault.Fault.{Fault}
use Rattle.rr_base.specs.declared.fault.Fault.TheVariants as fault
use Rattle.rr_base.specs.declared.limits.LimitKind.TheVariants as kind
use Rattle.rr_space.specs.Graph.{Object, IsFreeOfShells}
use Rattle.rr_space.specs.Tables.{Table, Packed, Here, IsSealed, joined, message_graph, space_graph, resolve}
use Rattle.rr_space.specs.Moves.{IsCopy, IsEmptied, IsPromoted, IsPutBack}
use Rattle.rr_space.specs.Parts.{value_of, below_ref, IsWithin}
use Rattle.rr_space.specs.Sound.{IsWell}
use Rattle.rr_space.specs.Views.{emptied}
use Rattle.rr_space.specs.declared.refer.Ref.{Ref}
use Rattle.rr_share.specs.Search.{LeadsToShell}
use Rattle.rr_copy.specs.Messages.{IsMessageSound}
use Rattle.rr_move.specs.declared.home.Home.{Home}
use Rattle.rr_move.specs.declared.home.Detached.{Detached}
use Rattle.rr_world.specs.Views.{Member, IsFree, AreRootsWithin}
use Rattle.rr_world.specs.Layouts.{message_below}
use Rattle.rr_world.specs.Packing.{MayNotPack, named_ref}
use Rattle.rr_world.specs.declared.step.Operand.{Operand}
use Rattle.rr_world.specs.declared.outcome.Outcome.{Outcome}
use Rattle.rr_world.specs.declared.outcome.Outcome.TheVariants.{NotEnabled, Done, Refused}

-- what the value leads to was moved out of the space, as a message with its home
pub record IsMovedFrom (t : Table) (v : Ref) (d : Detached) (now : Table) : Type 0 where
  pub well : IsWell t
  pub within : IsWithin (length t.slots) v
  pub promoted : IsPromoted t (value_of v)
  pub free : IsFreeOfShells (space_graph t) (resolve t.slots (value_of v))
  pub copy : IsCopy t (value_of v) d.home.slots d.message
  pub emptied : IsEmptied d.home.slots t now
  pub sender : d.message.sender ≡ t.owner
  pub sequence : d.message.sequence ≡ t.next_message
  pub next : now.next_message ≡ t.next_message + 1
  pub below : (e : ℕ × List Object) → Contains (message_below d.message) e → Contains (joined t.below ++ below_ref v) e
  pub sealed : IsSealed (message_graph d.message)
  pub sound : IsMessageSound d.message

-- the value leads to a shell, or a growth was refused, or all numbers of messages are used
pub record IsMoveRefused (f : Fault) (t : Table) (v : Ref) : Type 0 where
  pub well : IsWell t
  pub within : IsWithin (length t.slots) v
  pub why : (f ≡ fault.Memory) ⊎ ((f ≡ fault.Limit kind.Slots) × (2 ^ 64 - 1 ≤ t.next_message))
      ⊎ ((f ≡ fault.HoldsShell) × LeadsToShell (space_graph t) (resolve t.slots (value_of v)))

-- a value was moved out of the space into the empty hand
pub record IsMovedBy (op : Operand) (v : Ref) (d : Detached) (old now : Member) : Type 0 where
  pub empty : IsFree old
  pub named : named_ref old.roots op ≡ Some v
  pub rooted : AreRootsWithin (length old.space.slots) old.roots
  pub moved : IsMovedFrom old.space v d now.space
  pub now_is : now ≡ record old { space = now.space; hand = Some d.message; home = Some d.home }

abbrev pub Detaches : Operand → Outcome → Member → Member → Type 0
Detaches op NotEnabled old now = MayNotPack op old × (now ≡ old)
Detaches op Done old now = (v : Ref) × (d : Detached) × IsMovedBy op v d old now
Detaches op (Refused f) old now = (v : Ref) × IsFree old × (named_ref old.roots op ≡ Some v) × IsMoveRefused f old.space v × (now ≡ old)

-- the moved message in the hand is in its home again
pub record IsPutBackBy (d : Detached) (old now : Member) : Type 0 where
  pub held : old.hand ≡ Some d.message
  pub home : old.home ≡ Some d.home
  pub no_plan : old.plan ≡ None
  pub no_published : old.published ≡ None
  pub rooted : AreRootsWithin (length old.space.slots) old.roots
  pub shells : (n : ℕ) → Contains d.home.slots n → slice_get old.space.slots n ≡ Some (Here emptied)
  pub count : length d.message.below ≡ length d.message.objects
  pub back : IsPutBack d.home.slots d.message old.space now.space
  pub now_is : now ≡ record old { space = now.space; hand = None; home = None }

abbrev pub PutsBackInto : Outcome → Member → Member → Type 0
PutsBackInto NotEnabled old now = ((p : Packed) (h : Home) → old.hand ≡ Some p → old.home ≡ Some h → ⊥) × (now ≡ old)
PutsBackInto Done old now = (d : Detached) × IsPutBackBy d old now
PutsBackInto _ old now = ⊥
