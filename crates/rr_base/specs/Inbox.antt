-- What an inbox's events replay to.
use Rattle.std.specs.Prelude.{ℕ, ◌≡◌, ◌+◌, Bool, true, false, List, [], ◌∷◌, ◌++◌}
use Rattle.rr_base.specs.declared.event.InboxEvent.{InboxEvent}
use Rattle.rr_base.specs.declared.event.InboxEvent.TheVariants.{Offered, Accepted, Refused, Closed}

-- tickets and sizes of the messages inside, the closed mark, the next ticket
pub record InboxShape : Type 0 where
  pub queued : List (ℕ × ℕ)
  pub closed : Bool
  pub next : ℕ

abbrev pub empty_inbox : InboxShape
empty_inbox = record { queued = []; closed = false; next = 0 }

-- A message comes last under the next ticket, while the inbox is open. The first message leaves.
-- A message is refused, and the inbox stays, while it is closed. It is closed while it is open.
abbrev pub InboxStep : InboxShape → InboxEvent → InboxShape → Type 0
InboxStep x (Offered t s w) y = (x.closed ≡ false) × (t ≡ x.next) × (y ≡ record { queued = x.queued ++ (t, s) ∷ []; closed = false; next = x.next + 1 })
InboxStep x (Accepted t s w) y = (rest : List (ℕ × ℕ)) × (x.queued ≡ (t, s) ∷ rest) × (y ≡ record { queued = rest; closed = x.closed; next = x.next })
InboxStep x (Refused s w) y = (x.closed ≡ true) × (y ≡ x)
InboxStep x (Closed w) y = (x.closed ≡ false) × (y ≡ record { queued = x.queued; closed = true; next = x.next })
