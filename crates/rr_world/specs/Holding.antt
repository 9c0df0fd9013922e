-- Who holds which values in a state of the graph machine, and when no two hold one object that is not shared.
use Rattle.std.specs.Prelude.{◌≡◌, ◌⊎◌, ℕ, Some, Contains, slice_get}
use Rattle.rr_space.specs.Graph.{Own, Value, Reaches}
use Rattle.rr_space.specs.Readings.{Owner, Space, Hand, Mail, Shown, Shared, Owned, IsShared, IsLocal, IsApart, whole}
use Rattle.rr_world.specs.States.{Parcel, Letter, Mailbox, Farewell, Showcase, Actor, State}

-- the message is in the port: it is shown, or it is the last value or fault
abbrev pub IsInCase : Showcase → Letter → Type 0
IsInCase b e = (b.shown ≡ Some e) ⊎ ((l : Farewell) × (b.last ≡ Some l) × (l.letter ≡ e))

-- the holder has the value: a ractor has each of its roots, and a hand, and a message in an inbox or a port, has the message's root
abbrev pub IsHeld : State → Owner → Value → Type 0
IsHeld s (Space k) v = (a : Actor) × (slice_get s.ractors k ≡ Some a) × Contains a.roots v
IsHeld s (Hand k) v = (a : Actor) × (p : Parcel) × (slice_get s.ractors k ≡ Some a) × (a.hand ≡ Some p) × (p.root ≡ v)
IsHeld s (Mail c t) v = (b : Mailbox) × (e : Letter) × (slice_get s.post.inboxes c ≡ Some b) × Contains b.inside e × (e.ticket ≡ t) × (e.parcel.root ≡ v)
IsHeld s (Shown c t) v = (b : Showcase) × (e : Letter) × (slice_get s.post.ports c ≡ Some b) × IsInCase b e × (e.ticket ≡ t) × (e.parcel.root ≡ v)
IsHeld s (Shared c) v = ⊥

-- what two different holders both reach is shared; what a holder has is an immediate, an object of its own or a shared one; and
-- shared objects are frozen, no shells, and lead to shared ones and immediates alone
pub record AreHoldersApart (s : State) : Type 0 where
  pub apart : (h k : Owner) (v w : Value) (n : ℕ) (x : Owned) → (h ≡ k → ⊥) → IsHeld s h v → IsHeld s k w
      → Reaches (whole s.objects) v (Own n) → Reaches (whole s.objects) w (Own n) → s.objects n ≡ Some x → IsShared x.owner
  pub own : (h : Owner) (v : Value) → IsHeld s h v → IsLocal h s.objects v
  pub objects : IsApart s.objects
