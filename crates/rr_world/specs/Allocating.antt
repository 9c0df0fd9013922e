-- What a new object leaves of a ractor.
use Rattle.std.specs.Prelude.{◌≡◌, ◌<◌, ◌⊎◌, ◌++◌, ◌∷◌, [], length}
use Rattle.rr_base.specs.declared.fault.Fault.TheVariants.{Memory, Limit}
use Rattle.rr_base.specs.declared.limits.LimitKind.TheVariants.{Slots}
use Rattle.rr_space.specs.Tables.{Here}
use Rattle.rr_space.specs.declared.refer.Ref.TheVariants.{Local}
use Rattle.rr_world.specs.Views.{Member, ArePlacesBelow, AreRootsWithin, AreAway, IsPublishedFit}
use Rattle.rr_world.specs.ObjectCases.{new_object}
use Rattle.rr_world.specs.declared.step.NewObject.{NewObject}
use Rattle.rr_world.specs.declared.outcome.Outcome.{Outcome}
use Rattle.rr_world.specs.declared.outcome.Outcome.TheVariants.{Done, Refused}

-- the object stands in the next slot, and comes last in the roots
pub record IsAllocatedBy (new : NewObject) (old now : Member) : Type 0 where
  pub room : length old.space.slots < old.space.limit
  pub within : AreRootsWithin (length old.space.slots) old.roots
  pub slots : now.space.slots ≡ old.space.slots ++ Here (new_object new) ∷ []
  pub below : now.space.below ≡ old.space.below ++ [] ∷ []
  pub keys : now.space.keys ≡ old.space.keys ++ [] ∷ []
  pub even : length old.space.keys ≡ length old.space.slots
  pub limit : now.space.limit ≡ old.space.limit
  pub roots : now.roots ≡ old.roots ++ Local (length old.space.slots) ∷ []
  pub hand : now.hand ≡ old.hand
  pub home : now.home ≡ old.home
  pub ticket : now.ticket ≡ old.ticket
  pub plan : now.plan ≡ old.plan
  pub planned : ArePlacesBelow (length old.space.slots) old.plan
  pub published : now.published ≡ old.published
  pub fit : IsPublishedFit old.space old.published
  pub away : AreAway old.space.slots old.hand old.home
  pub next : now.space.next_message ≡ old.space.next_message
  pub owner : now.space.owner ≡ old.space.owner
  pub limits : now.limits ≡ old.limits
  pub runs : now.runs ≡ old.runs

abbrev pub Allocs : NewObject → Outcome → Member → Member → Type 0
Allocs new Done old now = IsAllocatedBy new old now
Allocs new (Refused f) old now = ((f ≡ Memory) ⊎ ((f ≡ Limit Slots) × (length old.space.slots ≡ old.space.limit))) × (now ≡ old)
Allocs new _ old now = ⊥
