-- The cases of the graph machine that pack, move, offer and open messages.
use Rattle.std.specs.Prelude.{◌≡◌, ℕ, ◌+◌, ◌-◌, ◌^◌, ◌<◌, ◌≤◌, ◌⊎◌, true, false, Bool, cond, List, [], ◌∷◌, ◌++◌, length, map, Some, None, slice_set}
use Rattle.rr_base.specs.declared.name.RactorNo.{RactorNo as Number}
use Rattle.rr_base.specs.declared.fault.Fault.{Fault}
use Rattle.rr_base.specs.declared.fault.Fault.TheVariants as fault
use Rattle.rr_base.specs.declared.limits.LimitKind.TheVariants as kind
use Rattle.rr_base.specs.declared.event.InboxEvent.TheVariants as event
use Rattle.rr_space.specs.Graph.{Name, Own, Value, IsFreeOfShells}
use Rattle.rr_space.specs.Readings.{Space, Hand, Mail, whole}
use Rattle.rr_share.specs.Search.{LeadsToShell}
use Rattle.rr_space.specs.Steps.{IsHandedOn, IsDropped, IsCopied, IsMoved, IsUndone}
use Rattle.rr_world.specs.States.{Parcel, Letter, Mailbox, Actor, State, IsSame, with_box}
use Rattle.rr_world.specs.Enabling.{AreShareablesShared}

-- pack: the value leads to no shell, and all of it that is shareable is Shared; a copy of it, sent by the ractor, comes into the hand
pub record IsPacked (k : ℕ) (a : Actor) (x : Value) (p : Parcel) (s t : State) : Type 0 where
  pub free : IsFreeOfShells (whole s.objects) x
  pub shared : AreShareablesShared s.objects x
  pub left : List Name
  pub objects : IsCopied k x p.root left (map Own p.names) s.objects t.objects
  pub size : length left ≡ p.size
  pub sender : p.sender ≡ k + 1
  pub sequence : p.sequence ≡ 0
  pub ractors : t.ractors ≡ slice_set s.ractors k (record a { hand = Some p })
  pub post : t.post ≡ s.post

-- a refused pack: a growth was refused, or the value leads to a shell; all is as it was
abbrev pub IsPackRefusedFor : Value → Fault → State → State → Type 0
IsPackRefusedFor x f s t = ((f ≡ fault.Memory) ⊎ ((f ≡ fault.HoldsShell) × LeadsToShell (whole s.objects) x)) × IsSame s t

-- detach: the same, but for a move; what was moved is away under the ractor's next number, and its shells are the home
pub record IsDetached (k : ℕ) (a : Actor) (x : Value) (p : Parcel) (home : List ℕ) (s t : State) : Type 0 where
  pub free : IsFreeOfShells (whole s.objects) x
  pub shared : AreShareablesShared s.objects x
  pub objects : IsMoved k x p.root (map Own home) (map Own p.names) s.objects t.objects
  pub size : length home ≡ p.size
  pub sender : p.sender ≡ k + 1
  pub sequence : p.sequence ≡ a.next
  pub ractors : t.ractors ≡ slice_set s.ractors k (record a { hand = Some p; home = Some home; next = a.next + 1 })
  pub post : t.post ≡ s.post

-- a refused detach: a growth was refused, or the ractor has used all numbers, or the value leads to a shell; all is as it was
abbrev pub IsDetachRefusedFor : Actor → Value → Fault → State → State → Type 0
IsDetachRefusedFor a x f s t = ((f ≡ fault.Memory) ⊎ ((f ≡ fault.Limit kind.Slots) × (2 ^ 64 - 1 ≤ a.next)) ⊎ ((f ≡ fault.HoldsShell) × LeadsToShell (whole s.objects) x)) × IsSame s t

-- put back: the move ends, each shell of the home is again what left it, and the hand's objects vanish
pub record IsReturned (k : ℕ) (a : Actor) (p : Parcel) (home : List ℕ) (s t : State) : Type 0 where
  pub objects : IsUndone k home p.names s.objects t.objects
  pub ractors : t.ractors ≡ slice_set s.ractors k (record a { hand = None; home = None })
  pub post : t.post ≡ s.post

-- drop: the hand's objects vanish, and a home or a plan with them
pub record IsDiscarded (k : ℕ) (a : Actor) (s t : State) : Type 0 where
  pub objects : IsDropped (Hand k) s.objects t.objects
  pub ractors : t.ractors ≡ slice_set s.ractors k (record a { hand = None; home = None; plan = None })
  pub post : t.post ≡ s.post

-- the events that the history of an inbox owes: one for each message inside, and one for the close while it is open
abbrev pub owed_by : Mailbox → ℕ
owed_by b = length b.inside + cond b.closed 0 1

abbrev pub HasRoom : Mailbox → Type 0
HasRoom b = length b.history + owed_by b + 2 ≤ b.limit

-- offer, Ok: the history had room, and the inbox was open; the message is last under the next ticket, and the owner of its objects turns from hand to message; a
-- home goes
pub record IsOffered (who : Number) (k c : ℕ) (a : Actor) (p : Parcel) (b : Mailbox) (t : ℕ) (old new : State) : Type 0 where
  pub room : HasRoom b
  pub unshut : b.closed ≡ false
  pub ticket : t ≡ b.next
  pub objects : IsHandedOn (Hand k) (Mail c t) old.objects new.objects
  pub ractors : new.ractors ≡ slice_set old.ractors k (record a { hand = None; home = None })
  pub post : new.post ≡ with_box old.post c (record b {
    inside = b.inside ++ record { ticket = t; parcel = p } ∷ [];
    next = b.next + 1;
    history = b.history ++ event.Offered t p.size who ∷ [];
  })

-- a refused offer: the history had no room, or a growth was refused, and all is as it was; or the inbox was closed, and its
-- history has the refusal
abbrev pub IsOfferRefused : Number → ℕ → Parcel → Mailbox → Fault → State → State → Type 0
IsOfferRefused who c p b fault.HistoryFull s t = (HasRoom b → ⊥) × IsSame s t
IsOfferRefused who c p b fault.Memory s t = HasRoom b × IsSame s t
IsOfferRefused who c p b fault.Closed s t = HasRoom b × (b.closed ≡ true)
    × IsSame (record s { post = with_box s.post c (record b { history = b.history ++ event.Refused p.size who ∷ [] }) }) t
IsOfferRefused who c p b _ s t = ⊥

-- accept: the first message, which is gone from the inbox; its objects' owner turns from message to hand
pub record IsAccepted (who : Number) (k : ℕ) (a : Actor) (e : Letter) (es : List Letter) (b : Mailbox) (s t : State) : Type 0 where
  pub first : b.inside ≡ e ∷ es
  pub objects : IsHandedOn (Mail k e.ticket) (Hand k) s.objects t.objects
  pub ractors : t.ractors ≡ slice_set s.ractors k (record a { hand = Some e.parcel })
  pub post : t.post ≡ with_box s.post k (record b { inside = es; history = b.history ++ event.Accepted e.ticket e.parcel.size who ∷ [] })

-- open: the objects pass no limit of slots; the owner turns from hand to ractor; the root joins its roots; a home goes
pub record IsOpenedAs (k : ℕ) (a : Actor) (p : Parcel) (s t : State) : Type 0 where
  pub room : a.slots + p.size ≤ a.limit
  pub objects : IsHandedOn (Hand k) (Space k) s.objects t.objects
  pub ractors : t.ractors ≡ slice_set s.ractors k (record a { roots = a.roots ++ p.root ∷ []; hand = None; home = None; slots = a.slots + p.size })
  pub post : t.post ≡ s.post

-- a refused open: a growth was refused, or the objects pass the limit of slots; all is as it was
abbrev pub IsOpenRefused : Actor → Parcel → Fault → State → State → Type 0
IsOpenRefused a p f s t = ((f ≡ fault.Memory) ⊎ ((f ≡ fault.Limit kind.Slots) × (a.limit < a.slots + p.size))) × IsSame s t

-- close: whether it was closed; now it is, and messages stay. Only the first close leaves an event
pub record IsClosedBy (who : Number) (c : ℕ) (b : Mailbox) (already : Bool) (s t : State) : Type 0 where
  pub was : already ≡ b.closed
  pub objects : (n : ℕ) → t.objects n ≡ s.objects n
  pub ractors : t.ractors ≡ s.ractors
  pub post : t.post ≡ with_box s.post c (record b { closed = true; history = b.history ++ cond b.closed [] (event.Closed who ∷ []) })
