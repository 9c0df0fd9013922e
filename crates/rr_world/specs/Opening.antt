-- What opening the message in a hand leaves of a ractor.
use Rattle.std.specs.Prelude.{◌≡◌, ◌+◌, ◌<◌, ◌≤◌, ◌⊎◌, ◌++◌, ◌∷◌, [], length, None, Some}
use Rattle.rr_base.specs.declared.fault.Fault.{Fault}
use Rattle.rr_base.specs.declared.fault.Fault.TheVariants.{Memory, Limit}
use Rattle.rr_base.specs.declared.limits.LimitKind.TheVariants.{Slots}
use Rattle.rr_space.specs.Tables.{Packed}
use Rattle.rr_space.specs.Moves.{IsOpened}
use Rattle.rr_space.specs.Parts.{value_of, below_ref, IsWithin}
use Rattle.rr_space.specs.declared.refer.Ref.{Ref}
use Rattle.rr_copy.specs.Messages.{size_of}
use Rattle.rr_world.specs.Views.{Member, AreRootsWithin}
use Rattle.rr_world.specs.declared.outcome.Outcome.{Outcome}
use Rattle.rr_world.specs.declared.outcome.Outcome.TheVariants.{NotEnabled, Done, Refused}

-- why the message is not opened: a growth was refused, or its objects pass the limit of the space
abbrev pub OpenRefusal : Fault → Packed → Member → Type 0
OpenRefusal fault m old = (fault ≡ Memory) ⊎ ((fault ≡ Limit Slots) × (old.space.limit < length old.space.slots + size_of m))

-- the message in the hand is opened in the space, and its root comes last
pub record IsOpenedBy (m : Packed) (root : Ref) (old new : Member) : Type 0 where
  pub held : old.hand ≡ Some m
  pub room : length new.space.slots ≤ new.space.limit
  pub within : AreRootsWithin (length old.space.slots) old.roots
  pub even : length old.space.keys ≡ length old.space.slots
  pub opened : IsOpened m old.space new.space (value_of root)
  pub below : below_ref root ≡ m.root_below
  pub rooted : IsWithin (length new.space.slots) root
  pub roots : new.roots ≡ old.roots ++ root ∷ []
  pub hand : new.hand ≡ None
  pub home : new.home ≡ None
  pub ticket : new.ticket ≡ old.ticket
  pub no_plan : old.plan ≡ None
  pub plan : new.plan ≡ None
  pub no_published : old.published ≡ None
  pub published : new.published ≡ None
  pub limits : new.limits ≡ old.limits
  pub runs : new.runs ≡ old.runs

abbrev pub Opened : Outcome → Member → Member → Type 0
Opened NotEnabled old new = (old.hand ≡ None) × (new ≡ old)
Opened Done old new = (m : Packed) × (root : Ref) × IsOpenedBy m root old new
Opened (Refused fault) old new = (m : Packed) × (old.hand ≡ Some m) × OpenRefusal fault m old × (new ≡ old)
