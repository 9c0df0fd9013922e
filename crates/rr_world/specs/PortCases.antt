-- The cases of the graph machine on ports.
use Rattle.std.specs.Prelude.{◌≡◌, ◌⊎◌, ◌≤◌, ℕ, ◌+◌, true, false, Bool, cond, [], ◌∷◌, ◌++◌, length, Option, Some, None, slice_set}
use Rattle.rr_base.specs.declared.name.RactorNo.{RactorNo as Number}
use Rattle.rr_base.specs.declared.fault.Fault.{Fault}
use Rattle.rr_base.specs.declared.fault.Fault.TheVariants as fault
use Rattle.rr_base.specs.declared.event.PortEvent.{PortEvent}
use Rattle.rr_base.specs.declared.event.PortEvent.TheVariants as event
use Rattle.rr_base.specs.Flow.{count_of}
use Rattle.rr_port.specs.declared.last.Settled.{Settled}
use Rattle.rr_port.specs.declared.last.Settled.TheVariants as settled
use Rattle.rr_world.specs.Views.{waits_under}
use Rattle.rr_space.specs.Readings.{Hand, Shown}
use Rattle.rr_space.specs.Steps.{IsHandedOn}
use Rattle.rr_world.specs.States.{Parcel, Letter, Showcase, Actor, State, IsSame, with_case}
use Rattle.rr_world.specs.declared.step.LastKind.{LastKind}
use Rattle.rr_world.specs.declared.step.LastKind.TheVariants as kind

-- close: whether it was closed; now it is, and what is inside stays. Only the first close leaves an event
pub record IsPortClosedBy (who : Number) (c : ℕ) (b : Showcase) (already : Bool) (s t : State) : Type 0 where
  pub was : already ≡ b.closed
  pub objects : (n : ℕ) → t.objects n ≡ s.objects n
  pub ractors : t.ractors ≡ s.ractors
  pub post : t.post ≡ with_case s.post c (record b { closed = true; history = b.history ++ cond b.closed [] (event.Closed who ∷ []) })

abbrev pub is_of_fault : LastKind → Bool
is_of_fault kind.Value = false
is_of_fault kind.Fault = true

-- what the history tells of a last value or fault
abbrev pub told_of : LastKind → ℕ → ℕ → Number → PortEvent
told_of kind.Value t size who = event.Last t size who
told_of kind.Fault t size who = event.Fault t size who

-- show last, Ok: it was open; the last value or fault stands under the next ticket and counts as given, the port is closed, and
-- the owner of its objects turns from hand to message; a home goes
pub record IsLastLeft (who : Number) (mark : LastKind) (k : ℕ) (a : Actor) (p : Parcel) (b : Showcase) (t : ℕ) (old new : State) : Type 0 where
  pub unshut : b.closed ≡ false
  pub ticket : t ≡ b.next
  pub objects : IsHandedOn (Hand k) (Shown k t) old.objects new.objects
  pub ractors : new.ractors ≡ slice_set old.ractors k (record a { hand = None; home = None })
  pub post : new.post ≡ with_case old.post k (record b {
    last = Some (record { letter = record { ticket = t; parcel = p }; is_fault = is_of_fault mark });
    given = true;
    closed = true;
    next = b.next + 1;
    history = b.history ++ told_of mark t p.size who ∷ [];
  })

-- a refused last value or fault: the port was closed; it counts as given, and the history tells of it
abbrev pub IsLastRefused : Number → ℕ → Parcel → Showcase → Fault → State → State → Type 0
IsLastRefused who k p b fault.Closed s t = (b.closed ≡ true)
    × IsSame (record s { post = with_case s.post k (record b { given = true; history = b.history ++ event.Late p.size who ∷ [] }) }) t
IsLastRefused who k p b _ s t = ⊥

-- grab: what the port at c had is gone from it, and the owner turns from message to hand
pub record IsGrabbed (k c : ℕ) (a : Actor) (e : Letter) (now : Showcase) (s t : State) : Type 0 where
  pub objects : IsHandedOn (Shown c e.ticket) (Hand k) s.objects t.objects
  pub ractors : t.ractors ≡ slice_set s.ractors k (record a { hand = Some e.parcel })
  pub post : t.post ≡ with_case s.post c now

-- the same, with another event
abbrev pub grabbed : Showcase → Letter → Number → Showcase
grabbed b e who = record b { history = b.history ++ event.Grabbed e.ticket e.parcel.size who ∷ [] }

-- the events that the history of a port owes: one for each message inside, one for the close while it is open, and two for the last
-- value while none was given
abbrev pub owed_by_port : Showcase → ℕ
owed_by_port b = count_of b.shown + count_of b.last + cond b.closed 0 1 + cond b.given 0 2

abbrev pub HasShowRoom : Showcase → Type 0
HasShowRoom b = length b.history + owed_by_port b + 2 ≤ b.limit

-- show, Ok: it was open; the message is shown under the next ticket, and the owner of its objects turns from hand to message; a home
-- stays, with the ticket
pub record IsShown (who : Number) (k : ℕ) (a : Actor) (p : Parcel) (b : Showcase) (t : ℕ) (old new : State) : Type 0 where
  pub room : HasShowRoom b
  pub unshut : b.closed ≡ false
  pub ticket : t ≡ b.next
  pub objects : IsHandedOn (Hand k) (Shown k t) old.objects new.objects
  pub ractors : new.ractors ≡ slice_set old.ractors k (record a { hand = None; ticket = waits_under a.home t })
  pub post : new.post ≡ with_case old.post k (record b {
    shown = Some (record { ticket = t; parcel = p });
    next = b.next + 1;
    history = b.history ++ event.Shown t p.size who ∷ [];
  })

-- a refused showing: the history had no room, or a growth was refused, and all is as it was; or the port was closed, and its
-- history has the refusal
abbrev pub IsShowRefused : Number → ℕ → Parcel → Showcase → Fault → State → State → Type 0
IsShowRefused who k p b fault.HistoryFull s t = (HasShowRoom b → ⊥) × IsSame s t
IsShowRefused who k p b fault.Memory s t = HasShowRoom b × IsSame s t
IsShowRefused who k p b fault.Closed s t = HasShowRoom b × (b.closed ≡ true)
    × IsSame (record s { post = with_case s.post k (record b { history = b.history ++ event.Refused p.size who ∷ [] }) }) t
IsShowRefused who k p b _ s t = ⊥

-- the message of this ticket is shown
abbrev pub IsUnder : Option Letter → ℕ → Type 0
IsUnder None ticket = ⊥
IsUnder (Some e) ticket = e.ticket ≡ ticket

-- the home goes, with its ticket
pub record IsForgotten (k : ℕ) (a : Actor) (s t : State) : Type 0 where
  pub objects : (n : ℕ) → t.objects n ≡ s.objects n
  pub ractors : t.ractors ≡ slice_set s.ractors k (record a { home = None; ticket = None })
  pub post : t.post ≡ s.post

-- the home of the message that was shown under the ticket goes, where it is in the hand; else all is as it was
abbrev pub IsLetGo : ℕ → Actor → ℕ → State → State → Type 0
IsLetGo k a ticket s t = ((a.ticket ≡ Some ticket) × IsForgotten k a s t) ⊎ ((a.ticket ≡ Some ticket → ⊥) × IsSame s t)

-- withdraw: the message that was shown is gone from the port, and the owner of its objects turns from message to hand, where its
-- home is, if it was moved
pub record IsWithdrawn (who : Number) (k : ℕ) (a : Actor) (e : Letter) (b : Showcase) (s t : State) : Type 0 where
  pub objects : IsHandedOn (Shown k e.ticket) (Hand k) s.objects t.objects
  pub ractors : t.ractors ≡ slice_set s.ractors k (record a { hand = Some e.parcel; ticket = None })
  pub post : t.post ≡ with_case s.post k (record b { shown = None; history = b.history ++ event.Withdrawn e.ticket e.parcel.size who ∷ [] })

-- a refused withdrawing: the message is shown no more, and its home goes
abbrev pub IsWithdrawRefused : ℕ → Actor → ℕ → Showcase → Fault → State → State → Type 0
IsWithdrawRefused k a ticket b fault.NotShown s t = (IsUnder b.shown ticket → ⊥) × IsLetGo k a ticket s t
IsWithdrawRefused k a ticket b _ s t = ⊥

-- settle: taken, if no message is shown under the ticket, and a home goes; else whether the port is closed, and all is as it was
abbrev pub IsSettledAs : ℕ → Actor → ℕ → Showcase → Settled → State → State → Type 0
IsSettledAs k a ticket b settled.Taken s t = (IsUnder b.shown ticket → ⊥) × IsLetGo k a ticket s t
IsSettledAs k a ticket b settled.Shown s t = IsUnder b.shown ticket × (b.closed ≡ false) × IsSame s t
IsSettledAs k a ticket b settled.Closed s t = IsUnder b.shown ticket × (b.closed ≡ true) × IsSame s t
