-- What a port is.
use Rattle.std.specs.Prelude.{ℕ, ◌+◌, ◌≤◌, ◌<◌, ◌^◌, ◌≡◌, ◌≢◌, Bool, false, cond, List, [], ◌∷◌, length, Option, Some, None, Result, Ok, Err}
use Rattle.std.specs.Option.{option_map}
use Rattle.rr_base.specs.declared.name.RactorNo.{RactorNo}
use Rattle.rr_base.specs.declared.fault.Fault.{Fault}
use Rattle.rr_base.specs.declared.fault.Fault.TheVariants as fault
use Rattle.rr_base.specs.declared.event.PortEvent.{PortEvent}
use Rattle.rr_base.specs.declared.event.PortEvent.TheVariants as event
use Rattle.rr_base.specs.declared.event.Kept.{Kept as KeptLast}
use Rattle.rr_base.specs.declared.event.PortShape.{PortShape}
use Rattle.rr_base.specs.Replay.{Replays}
use Rattle.rr_base.specs.Port.{PortStep, empty_port}
use Rattle.rr_base.specs.Flow.{count_of}
use Rattle.rr_space.specs.Tables.{Packed}
use Rattle.rr_copy.specs.Messages.{size_of}
use Rattle.rr_port.specs.declared.last.Last.{Last}
use Rattle.rr_port.specs.declared.last.Shown.{Shown}
use Rattle.rr_port.specs.declared.last.LastGiven.{LastGiven}
use Rattle.rr_port.specs.Lasts.{message_of, is_fault, last_event}

-- the shown message and the last value or fault with their tickets, whether one was given, the closed mark, the next
-- ticket, the history and its limit
pub record Port : Type 0 where
  pub shown : Option Shown
  pub last : Option LastGiven
  pub given : Bool
  pub closed : Bool
  pub next : ℕ
  pub history : List PortEvent
  pub limit : ℕ

abbrev pub new_port : ℕ → Port
new_port limit = record { shown = None; last = None; given = false; closed = false; next = 0; history = []; limit = limit }

abbrev pub mark_of : Shown → ℕ × ℕ
mark_of s = (s.ticket, size_of s.message)

abbrev pub kept_of : LastGiven → KeptLast
kept_of l = record { is_fault = is_fault l.last; ticket = l.ticket; size = size_of (message_of l.last) }

-- tickets and sizes in place of messages
abbrev pub shape_of : Port → PortShape
shape_of p = record { shown = option_map mark_of p.shown; last = option_map kept_of p.last; given = p.given; closed = p.closed; next = p.next }

-- the events that the history still owes: one for each message inside, one for the close while it is open, and two for the
-- last value while none was given
abbrev pub owed : Port → ℕ
owed p = count_of p.shown + count_of p.last + cond p.closed 0 1 + cond p.given 0 2

-- the history has room for another message, or another refusal
abbrev pub HasEvents : Port → Type 0
HasEvents p = length p.history + owed p + 2 ≤ p.limit

-- the tickets inside are below the next one, and the last value's is another than the shown message's
pub record IsTicketed (p : Port) : Type 0 where
  pub shown_below_next : (e : Shown) → p.shown ≡ Some e → e.ticket < p.next
  pub last_below_next : (l : LastGiven) → p.last ≡ Some l → l.ticket < p.next
  pub apart : (e : Shown) (l : LastGiven) → p.shown ≡ Some e → p.last ≡ Some l → l.ticket ≢ e.ticket

-- the events that a showing leaves
abbrev pub told_of_show : Result ℕ (Fault × Packed) → RactorNo → Packed → List PortEvent
told_of_show (Ok t) who m = event.Shown t (size_of m) who ∷ []
told_of_show (Err (fault.Closed, back)) who m = event.Refused (size_of m) who ∷ []
told_of_show (Err _) who m = []

abbrev pub told_of_last : Result ℕ (Fault × Last) → RactorNo → Last → List PortEvent
told_of_last (Ok t) who l = last_event t who l ∷ []
told_of_last (Err _) who l = event.Late (size_of (message_of l)) who ∷ []

-- what every port keeps, beside the room that its history has
pub record Kept (p : Port) (capacity : ℕ) : Type 0 where
  pub replays : Replays PortStep empty_port p.history (shape_of p)
  pub room : length p.history + owed p ≤ capacity
  pub within : length p.history + owed p ≤ p.limit
  pub next : p.next ≤ length p.history
  pub limit : p.limit < 2 ^ 32
  pub none_before : p.given ≡ false → p.last ≡ None
  pub tickets : IsTicketed p
