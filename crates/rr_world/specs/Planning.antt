-- What planning, publishing and promoting leave of a ractor.
use Rattle.std.specs.Prelude.{◌≡◌, ◌↔◌, ℕ, ◌⊎◌, ◌^◌, ◌<◌, List, [], ◌∷◌, length, Option, None, Some, Contains}
use Rattle.rr_space.specs.Graph.{Object, Own, At, Reaches, IsShareable, IsFreeOfShells}
use Rattle.rr_space.specs.Moves.{IsPlanned, IsPromotedTo}
use Rattle.rr_space.specs.Tables.{Table, joined, space_graph, resolve}
use Rattle.rr_space.specs.Parts.{value_of, IsWithin}
use Rattle.rr_space.specs.Sound.{IsWell, IsWholeSound}
use Rattle.rr_space.specs.declared.refer.Ref.{Ref}
use Rattle.rr_space.specs.declared.refer.Ref.TheVariants.{Local}
use Rattle.rr_share.specs.declared.planned.Plan.{Plan}
use Rattle.rr_world.specs.Views.{PublishedPlan, Member, IsFree, AreRootsWithin}
use Rattle.rr_world.specs.Packing.{IsPackRefused, named_ref}
use Rattle.rr_world.specs.declared.step.Operand.{Operand}
use Rattle.rr_world.specs.declared.outcome.Outcome.{Outcome}
use Rattle.rr_world.specs.declared.outcome.Outcome.TheVariants.{NotEnabled, Done, Refused}

-- the plan has exactly the shareable objects of the space that the value leads to, which leads to no shell; its cluster knows no
-- more than the space
pub record IsPlanOf (t : Table) (v : Ref) (plan : Plan) : Type 0 where
  pub well : IsWell t
  pub within : IsWithin (length t.slots) v
  pub free : IsFreeOfShells (space_graph t) (resolve t.slots (value_of v))
  pub planned : IsPlanned t plan.cluster plan.places
  pub below : (e : ℕ × List Object) → Contains plan.cluster.below e → Contains (joined t.below) e
  pub exact : (n : ℕ) → Contains plan.places n ↔ (Reaches (space_graph t) (resolve t.slots (value_of v)) (Own n) × IsShareable (space_graph t) (At (Own n)))

-- what is kept of a plan of these places: nothing where there are none
abbrev pub kept_plan : List ℕ → Plan → Option Plan
kept_plan [] plan = None
kept_plan (n ∷ ns) plan = Some plan

-- the hand is not empty, or there is no such root
abbrev pub MayNotPlan : Operand → Member → Type 0
MayNotPlan op old = (IsFree old → ⊥) ⊎ (named_ref old.roots op ≡ None)

-- what a plan answers, and what it leaves of the ractor
abbrev pub Plans : Operand → Outcome → Member → Member → Type 0
Plans op NotEnabled old new = MayNotPlan op old × (new ≡ old)
Plans op Done old new = (v : Ref) × (p : Plan) × IsFree old × (named_ref old.roots op ≡ Some v) × IsPlanOf old.space v p × (new ≡ record old { plan = kept_plan p.places p })
Plans op (Refused f) old new = (v : Ref) × IsFree old × (named_ref old.roots op ≡ Some v) × IsPackRefused f old.space v × (new ≡ old)

-- a plan came out of the hand, which is empty then. It is one of the space still, and its objects can be counted
pub record IsPlanTaken (plan : Plan) (old new : Member) : Type 0 where
  pub held : old.plan ≡ Some plan
  pub planned : IsPlanned old.space plan.cluster plan.places
  pub sound : IsWholeSound plan.cluster
  pub few : length plan.cluster.own < 2 ^ 32
  pub now_is : new ≡ record old { plan = None }
  pub empty : IsFree new

-- the reference is a slot of the published plan in the hand
abbrev pub IsInPublished : Member → Ref → Type 0
IsInPublished m r = (p : PublishedPlan) × (n : ℕ) × (m.published ≡ Some p) × (r ≡ Local n) × Contains p.places n

-- the slots of the published plan are forwards, and the hand is empty
pub record IsPromotedIn (p : PublishedPlan) (old new : Member) : Type 0 where
  pub held : old.published ≡ Some p
  pub within : AreRootsWithin (length old.space.slots) old.roots
  pub planned : IsPlanned old.space p.cluster p.places
  pub promoted : IsPromotedTo p.cluster p.places old.space new.space
  pub now_is : new ≡ record old { space = new.space; published = None }
  pub empty : IsFree new

-- what a promotion answers, and what it leaves of the ractor
abbrev pub Promotes : Outcome → Member → Member → Type 0
Promotes NotEnabled old new = (old.published ≡ None) × (new ≡ old)
Promotes Done old new = (p : PublishedPlan) × IsPromotedIn p old new
Promotes _ old new = ⊥
