-- What contracts see of a World: plain lists.
use Rattle.std.specs.Prelude.{◌≡◌, ◌<◌, ◌⊎◌, ℕ, Bool, true, List, [], ◌∷◌, length, Option, None, Some, Contains, slice_get, slice_set}
use Rattle.rr_base.specs.declared.limits.Limits.{Limits}
use Rattle.rr_space.specs.Tables.{Table, Packed, Slot, Here, Whole}
use Rattle.rr_space.specs.Moves.{IsPlanned, forwarded}
use Rattle.rr_space.specs.Views.{emptied}
use Rattle.rr_space.specs.Parts.{IsWithin}
use Rattle.rr_space.specs.declared.refer.Ref.{Ref}
use Rattle.rr_inbox.specs.Inboxes.{Inbox}
use Rattle.rr_port.specs.Ports.{Port}
use Rattle.rr_store.specs.Stores.{Store}
use Rattle.rr_share.specs.declared.planned.Plan.{Plan}
use Rattle.rr_move.specs.Homes.{IsHomeOf}
use Rattle.rr_move.specs.declared.home.Home.{Home}
use Rattle.rr_move.specs.declared.hand.Hand.{Hand}
use Rattle.rr_move.specs.declared.hand.Hand.TheVariants.{Empty, Planned, Published, Message, Moved, Shown}

-- a plan whose cluster is published, and its slots, which are to be forwards to the places of the cluster
pub record PublishedPlan : Type 0 where
  pub places : List ℕ
  pub cluster : Whole

-- a ractor: its space, its roots, the message in its hand, the home of that message where it was moved out of the space, the
-- ticket under which the message of the home is shown, where it is no more in the hand, the plan in the hand, the published plan
-- in the hand, the limits of the run, and whether it runs: it has not ended
pub record Member : Type 0 where
  pub space : Table
  pub roots : List Ref
  pub hand : Option Packed
  pub home : Option Home
  pub ticket : Option ℕ
  pub plan : Option Plan
  pub published : Option PublishedPlan
  pub limits : Limits
  pub runs : Bool

-- nothing is in the hand
pub record IsFree (m : Member) : Type 0 where
  pub hand : m.hand ≡ None
  pub home : m.home ≡ None
  pub ticket : m.ticket ≡ None
  pub plan : m.plan ≡ None
  pub published : m.published ≡ None

-- the ticket under which the message of a hand's home is shown
abbrev pub ticket_in : Hand → Option ℕ
ticket_in Empty = None
ticket_in (Planned plan) = None
ticket_in (Published places published) = None
ticket_in (Message p) = None
ticket_in (Moved d) = None
ticket_in (Shown home ticket) = Some ticket

-- the ticket that is kept with a home, of a message which is shown under it
abbrev pub waits_under : {A : Type 0} → Option A → ℕ → Option ℕ
waits_under None ticket = None
waits_under (Some home) ticket = Some ticket

-- nothing is in the hand but the home of the message that is shown under the ticket
pub record IsWaiting (m : Member) (ticket : ℕ) : Type 0 where
  pub hand : m.hand ≡ None
  pub ticket_is : m.ticket ≡ Some ticket

-- a message or a plan is in the hand
abbrev pub HasToDrop : Member → Type 0
HasToDrop m = ((p : Packed) × (m.hand ≡ Some p)) ⊎ ((p : Plan) × (m.plan ≡ Some p))

-- what is shown under the ticket may come back into the hand
abbrev pub MayHaveBack : Member → ℕ → Type 0
MayHaveBack m ticket = IsFree m ⊎ IsWaiting m ticket

-- the home in the hand is that of another message than the one that was shown under its ticket
pub record IsOfAnother (m : Member) (ticket : ℕ) (p : Packed) : Type 0 where
  pub kept : Home
  pub home : m.home ≡ Some kept
  pub ticket_is : m.ticket ≡ Some ticket
  pub strange : ¬ IsHomeOf kept p

-- the plan in a hand
abbrev pub plan_in : Hand → Option Plan
plan_in Empty = None
plan_in (Planned plan) = Some plan
plan_in (Published places published) = None
plan_in (Message p) = None
plan_in (Moved d) = None
plan_in (Shown home ticket) = None

-- the published plan in a hand
abbrev pub published_in : Hand → Option PublishedPlan
published_in Empty = None
published_in (Planned plan) = None
published_in (Published places published) = Some (record { places = places; cluster = published.cluster.now })
published_in (Message p) = None
published_in (Moved d) = None
published_in (Shown home ticket) = None

-- the slots of a space as all others see them: those of a published plan are the forwards already that they are to be
abbrev pub seen_through : Option PublishedPlan → List Slot → List Slot
seen_through None slots = slots
seen_through (Some p) slots = forwarded p.cluster.number p.places slots

abbrev pub seen_slots : Member → List Slot
seen_slots m = seen_through m.published m.space.slots

-- each place of a plan is one of so many slots
abbrev pub ArePlacesBelow : ℕ → Option Plan → Type 0
ArePlacesBelow k None = Unit {0}
ArePlacesBelow k (Some plan) = (n : ℕ) → Contains plan.places n → n < k

-- the cluster of a plan has what still stands in the slots of its places
abbrev pub IsPlanFit : Table → Option Plan → Type 0
IsPlanFit t None = Unit {0}
IsPlanFit t (Some plan) = IsPlanned t plan.cluster plan.places

abbrev pub IsPublishedFit : Table → Option PublishedPlan → Type 0
IsPublishedFit t None = Unit {0}
IsPublishedFit t (Some p) = IsPlanned t p.cluster p.places

-- a plan in the hand, published or not, is one of the space
abbrev pub IsHandFit : Table → Hand → Type 0
IsHandFit t h = IsPlanFit t (plan_in h) × IsPublishedFit t (published_in h)

-- each slot of the home is a shell
abbrev pub AreShells : List Slot → Home → Type 0
AreShells slots h = (n : ℕ) → Contains h.slots n → slice_get slots n ≡ Some (Here emptied)

-- a message is away from its home: each slot of the home is a shell, and each object has its list of clusters
pub record IsAway (slots : List Slot) (p : Packed) (h : Home) : Type 0 where
  pub shells : AreShells slots h
  pub count : length p.below ≡ length p.objects

-- where a home is in the hand, the message beside it is away from it, and where none is beside it, its slots are shells
abbrev pub AreAway : List Slot → Option Packed → Option Home → Type 0
AreAway slots hand None = Unit {0}
AreAway slots None (Some h) = AreShells slots h
AreAway slots (Some p) (Some h) = IsAway slots p h

-- what lies between ractors: their inboxes and their ports, by number, and the store
pub record Channels : Type 0 where
  pub inboxes : List Inbox
  pub ports : List Port
  pub store : Store

-- the same, with another inbox in one's place
abbrev pub with_inbox : Channels → ℕ → Inbox → Channels
with_inbox x c i = record x { inboxes = slice_set x.inboxes c i }

-- and with another port in one's place
abbrev pub with_port : Channels → ℕ → Port → Channels
with_port x c p = record x { ports = slice_set x.ports c p }

-- the ractors, by number, and what lies between them: number 1 stands first
pub record Assembly : Type 0 where
  pub ractors : List Member
  pub channels : Channels

-- the ractor at the place runs
abbrev pub RunsAt : Assembly → ℕ → Type 0
RunsAt w k = (m : Member) × (slice_get w.ractors k ≡ Some m) × (m.runs ≡ true)

-- each root leads to a slot of the space or to a place that its cluster has
abbrev pub AreRootsWithin : ℕ → List Ref → Type 0
AreRootsWithin k [] = Unit {0}
AreRootsWithin k (r ∷ rs) = IsWithin k r × AreRootsWithin k rs
