-- The tickets of the messages inside a channel.
use Rattle.std.specs.Prelude.{ℕ, ◌≡◌, ◌≢◌, ◌<◌, List, map, Some}
use Rattle.std.specs.List.{All}
use Rattle.std.specs.List.Sorted.{IsStrictlyIncreasing}
use Rattle.rr_base.specs.declared.event.Kept.{Kept}
use Rattle.rr_base.specs.declared.event.PortShape.{PortShape}
use Rattle.rr_base.specs.Inbox.{InboxShape}

abbrev pub tickets_of : List (ℕ × ℕ) → List ℕ
tickets_of ms = map (λ (m : ℕ × ℕ). m.0) ms

-- along an inbox the tickets rise, and the next one is above them
pub record HasRisingTickets (x : InboxShape) : Type 0 where
  pub rising : IsStrictlyIncreasing (tickets_of x.queued)
  pub below_next : All (λ t. t < x.next) (tickets_of x.queued)

-- in a port the tickets are below the next one, and the last value's is another than the shown message's
pub record HasOwnTickets (x : PortShape) : Type 0 where
  pub shown_below_next : (ticket size : ℕ) → x.shown ≡ Some (ticket, size) → ticket < x.next
  pub last_below_next : (last : Kept) → x.last ≡ Some last → last.ticket < x.next
  pub apart : (ticket size : ℕ) (last : Kept) → x.shown ≡ Some (ticket, size) → x.last ≡ Some last → last.ticket ≢ ticket
