-- Which lists of names a step may change: those of what it acts on.
use Rattle.std.specs.Prelude.{◌≡◌, ◌<◌, ℕ, length, Some, slice_get, slice_index}
use Rattle.rr_base.specs.declared.name.RactorNo.{RactorNo as Number}
use Rattle.rr_space.specs.Readings.{Owner, Space, Hand, Mail, Shown, Shared, Naming}
use Rattle.rr_world.specs.Views.{Member, Assembly}
use Rattle.rr_world.specs.Enabling.{StandsAt}
use Rattle.rr_world.specs.declared.step.Action.{Action}
use Rattle.rr_world.specs.declared.step.Action.TheVariants.{Alloc, Pack, Publish, Offer, Accept, Open, ShowLast, Show, Withdraw, Grab, Freeze, Append, Clear, Push, Write, Take, SetField, SetRaised, SetPair, DeletePair, Start, End, Detach, PutBack}
use Rattle.rr_world.specs.declared.step.Step.{Step}

-- the ractor's space where an object of it changes or objects come into it or begin anew; its hand where a message comes into it or goes home;
-- the message that it offers or shows; the space of the ractor that it starts, behind those that there are; and the cluster that it
-- publishes, behind those that there are. No other
abbrev pub IsRenamed : Assembly → Number → Action → Owner → Type 0
IsRenamed w who (Alloc new) (Space k) = StandsAt who k
IsRenamed w who (Freeze op) (Space k) = StandsAt who k
IsRenamed w who (Append op byte) (Space k) = StandsAt who k
IsRenamed w who (Clear op) (Space k) = StandsAt who k
IsRenamed w who (Push op x) (Space k) = StandsAt who k
IsRenamed w who (Write op i x) (Space k) = StandsAt who k
IsRenamed w who (Take op i) (Space k) = StandsAt who k
IsRenamed w who (SetField op name x) (Space k) = StandsAt who k
IsRenamed w who (SetRaised op part x) (Space k) = StandsAt who k
IsRenamed w who (SetPair op key x) (Space k) = StandsAt who k
IsRenamed w who (DeletePair op i) (Space k) = StandsAt who k
IsRenamed w who Open (Space k) = StandsAt who k
IsRenamed w who (Detach op) (Space k) = StandsAt who k
IsRenamed w who PutBack (Space k) = StandsAt who k
IsRenamed w who End (Space k) = StandsAt who k
IsRenamed w who Start (Space k) = k ≡ length w.ractors
IsRenamed w who (Pack op) (Hand k) = StandsAt who k
IsRenamed w who (Detach op) (Hand k) = StandsAt who k
IsRenamed w who PutBack (Hand k) = StandsAt who k
IsRenamed w who Accept (Hand k) = StandsAt who k
IsRenamed w who (Grab to) (Hand k) = StandsAt who k
IsRenamed w who (Withdraw ticket) (Hand k) = StandsAt who k
IsRenamed w who (Offer to) (Mail c ticket) = StandsAt to c
IsRenamed w who Show (Shown c ticket) = StandsAt who c
IsRenamed w who (ShowLast kind) (Shown c ticket) = StandsAt who c
IsRenamed w who Publish (Shared c) = c ≡ length w.channels.store.clusters
IsRenamed w who action owner = ⊥

-- each list that the step does not act on is as it was; and where the ractor does not end, each slot of each space has the name that it had
pub record AreNamesKept (w : Assembly) (step : Step) (names names2 : Naming) : Type 0 where
  pub others : (h : Owner) → (IsRenamed w step.who step.action h → ⊥) → names2 h ≡ names h
  pub slots : (k : ℕ) (m : Member) (i : ℕ) → slice_get w.ractors k ≡ Some m → i < length m.space.slots → (step.action ≡ End → ⊥) → slice_index (names2 (Space k)) i ≡ slice_index (names (Space k)) i
