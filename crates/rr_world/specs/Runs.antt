-- Runs of the graph machine, and what it is for a World to make one.
use Rattle.std.specs.Prelude.{◌≡◌, ℕ, true, List, [], ◌∷◌, None}
use Rattle.rr_base.specs.declared.limits.Limits.{Limits}
use Rattle.rr_space.specs.Readings.{Objects, Naming}
use Rattle.rr_inbox.specs.Inboxes.{new_inbox}
use Rattle.rr_port.specs.Ports.{new_port}
use Rattle.rr_store.specs.Stores.{new_store}
use Rattle.rr_world.specs.Views.{Member, Assembly}
use Rattle.rr_world.specs.Layouts.{IsRead}
use Rattle.rr_world.specs.States.{State}
use Rattle.rr_world.specs.Readings.{state_in}
use Rattle.rr_world.specs.Cases.{IsOutcome, IsCase}
use Rattle.rr_world.specs.Naming.{AreNamesKept}
use Rattle.rr_world.specs.Holding.{AreHoldersApart}
use Rattle.rr_world.specs.declared.step.Step.{Step}
use Rattle.rr_world.specs.declared.step.Reply.{Reply}

-- a World, and what it is read as
pub record Reading : Type 0 where
  pub world : Assembly
  pub names : Naming
  pub bound : ℕ
  pub objects : Objects

abbrev pub state_of : Reading → State
state_of a = state_in a.world a.names a.objects

-- a step between two readings: the states and the reply are a step of the machine; what two holders both reach after it is shared;
-- and what had a name before it has that name still
pub record IsStepTo (step : Step) (reply : Reply) (a b : Reading) : Type 0 where
  pub read : IsRead b.world b.names b.bound b.objects
  pub case : IsCase step reply (state_of a) (state_of b)
  pub apart : AreHoldersApart (state_of b)
  pub kept : AreNamesKept a.world step a.names b.names

-- each step begins at the reading where the one before ended
abbrev pub Chain : List Step → List Reply → Reading → Reading → Type 0
Chain [] [] a b = a ≡ b
Chain [] (r ∷ rs) a b = ⊥
Chain (x ∷ xs) [] a b = ⊥
Chain (x ∷ xs) (r ∷ rs) a b = (mid : Reading) × IsStepTo x r a mid × Chain xs rs mid b

-- from each reading of the World before there is one after, and the reply is the outcome of the step, if the ractor runs; and
-- names are kept
abbrev pub HasOutcome : Step → Reply → Assembly → Assembly → Type 0
HasOutcome step reply old new = (names : Naming) (bound : ℕ) (g : Objects) → IsRead old names bound g
    → (names2 : Naming) × (bound2 : ℕ) × (g2 : Objects) × IsRead new names2 bound2 g2
    × IsOutcome step reply (state_in old names g) (state_in new names2 g2) × AreNamesKept old step names names2

-- from each reading of the World before there is one after, and the two states and the reply are a step of the machine; and
-- names are kept
abbrev pub IsStep : Step → Reply → Assembly → Assembly → Type 0
IsStep step reply old new = (names : Naming) (bound : ℕ) (g : Objects) → IsRead old names bound g
    → (names2 : Naming) × (bound2 : ℕ) × (g2 : Objects) × IsRead new names2 bound2 g2
    × IsCase step reply (state_in old names g) (state_in new names2 g2) × AreNamesKept old step names names2

-- from each reading of the World before there is one after, and the steps and replies are a run between the two: from step to step
-- names are kept
abbrev pub IsRun : List Step → List Reply → Assembly → Assembly → Type 0
IsRun steps replies old new = (names : Naming) (bound : ℕ) (g : Objects) → IsRead old names bound g
    → (names2 : Naming) × (bound2 : ℕ) × (g2 : Objects) × IsRead new names2 bound2 g2
    × Chain steps replies (record { world = old; names = names; bound = bound; objects = g }) (record { world = new; names = names2; bound = bound2; objects = g2 })

-- the World has a reading
abbrev pub HasReading : Assembly → Type 0
HasReading w = (names : Naming) × (bound : ℕ) × (g : Objects) × IsRead w names bound g

-- one ractor without objects, roots and message, its inbox and its port, empty, and a store without constants
pub record IsNew (limits : Limits) (w : Assembly) : Type 0 where
  pub main : Member
  pub ractors : w.ractors ≡ main ∷ []
  pub slots : main.space.slots ≡ []
  pub below : main.space.below ≡ []
  pub limit : main.space.limit ≡ limits.slots
  pub owner : main.space.owner ≡ 1
  pub roots : main.roots ≡ []
  pub hand : main.hand ≡ None
  pub home : main.home ≡ None
  pub ticket : main.ticket ≡ None
  pub plan : main.plan ≡ None
  pub published : main.published ≡ None
  pub next : main.space.next_message ≡ 1
  pub run : main.limits ≡ limits
  pub runs : main.runs ≡ true
  pub inboxes : w.channels.inboxes ≡ new_inbox limits.events ∷ []
  pub ports : w.channels.ports ≡ new_port limits.events ∷ []
  pub store : w.channels.store ≡ new_store limits.events
