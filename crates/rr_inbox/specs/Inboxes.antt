-- What an inbox is.
use Rattle.std.specs.Prelude.{ℕ, ◌+◌, ◌≤◌, ◌<◌, ◌^◌, Bool, false, cond, List, [], ◌∷◌, length, map, Result, Ok, Err}
use Rattle.std.specs.List.{All}
use Rattle.std.specs.List.Sorted.{IsStrictlyIncreasing}
use Rattle.rr_base.specs.declared.name.RactorNo.{RactorNo}
use Rattle.rr_base.specs.declared.fault.Fault.{Fault}
use Rattle.rr_base.specs.declared.fault.Fault.TheVariants as fault
use Rattle.rr_base.specs.declared.event.InboxEvent.{InboxEvent}
use Rattle.rr_base.specs.declared.event.InboxEvent.TheVariants.{Offered, Refused}
use Rattle.rr_base.specs.Replay.{Replays}
use Rattle.rr_base.specs.Inbox.{InboxShape, InboxStep, empty_inbox}
use Rattle.rr_space.specs.Tables.{Packed}
use Rattle.rr_copy.specs.Messages.{size_of}
use Rattle.rr_inbox.specs.declared.entry.Entry.{Entry}

-- the messages inside with their tickets, the closed mark, the next ticket, the history and its limit
pub record Inbox : Type 0 where
  pub inside : List Entry
  pub closed : Bool
  pub next : ℕ
  pub history : List InboxEvent
  pub limit : ℕ

abbrev pub new_inbox : ℕ → Inbox
new_inbox limit = record { inside = []; closed = false; next = 0; history = []; limit = limit }

abbrev pub mark_of : Entry → ℕ × ℕ
mark_of e = (e.ticket, size_of e.message)

abbrev pub marks : List Entry → List (ℕ × ℕ)
marks es = map mark_of es

-- tickets and sizes in place of messages
abbrev pub shape_of : Inbox → InboxShape
shape_of s = record { queued = marks s.inside; closed = s.closed; next = s.next }

-- the events that the history still owes: one for each message inside, and one for the close while it is open
abbrev pub owed : Inbox → ℕ
owed s = length s.inside + cond s.closed 0 1

-- the history has room for another message, or another refusal
abbrev pub HasEvents : Inbox → Type 0
HasEvents s = length s.history + owed s + 2 ≤ s.limit

-- the tickets rise from the first message to the last, and the next one is above them
pub record IsTicketed (s : Inbox) : Type 0 where
  pub rising : IsStrictlyIncreasing (map (λ (e : Entry). e.ticket) s.inside)
  pub below_next : All (λ e. e.ticket < s.next) s.inside

-- the events that an offer leaves
abbrev pub told_of_offer : Result ℕ (Fault × Packed) → RactorNo → Packed → List InboxEvent
told_of_offer (Ok t) who m = Offered t (size_of m) who ∷ []
told_of_offer (Err (fault.Closed, back)) who m = Refused (size_of m) who ∷ []
told_of_offer (Err _) who m = []

-- what every inbox keeps, beside the room that its history has
pub record Kept (s : Inbox) (capacity : ℕ) : Type 0 where
  pub replays : Replays InboxStep empty_inbox s.history (shape_of s)
  pub room : length s.history + owed s ≤ capacity
  pub within : length s.history + owed s ≤ s.limit
  pub next : s.next ≤ length s.history
  pub limit : s.limit < 2 ^ 32
  pub tickets : IsTicketed s
