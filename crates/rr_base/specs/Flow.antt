-- What histories count: what came into a channel, what went out, and what was refused, in objects and in messages.
use Rattle.std.specs.Prelude.{ℕ, ◌+◌, List, length, Option, Some, None}
use Rattle.std.specs.List.{sum_by}
use Rattle.rr_base.specs.declared.event.InboxEvent.{InboxEvent}
use Rattle.rr_base.specs.declared.event.InboxEvent.TheVariants as inbox
use Rattle.rr_base.specs.declared.event.PortEvent.{PortEvent}
use Rattle.rr_base.specs.declared.event.PortEvent.TheVariants as port
use Rattle.rr_base.specs.declared.event.Kept.{Kept}
use Rattle.rr_base.specs.declared.event.PortShape.{PortShape}
use Rattle.rr_base.specs.Inbox.{InboxShape}

-- what an event does to what is inside: a message of this size comes, goes, is refused, or none
pub data Flow : Type 0 where
  Came : (size : ℕ) → Flow
  Went : (size : ℕ) → Flow
  Denied : (size : ℕ) → Flow
  Quiet : Flow

abbrev pub inbox_flow : InboxEvent → Flow
inbox_flow (inbox.Offered t s w) = Came s
inbox_flow (inbox.Accepted t s w) = Went s
inbox_flow (inbox.Refused s w) = Denied s
inbox_flow (inbox.Closed w) = Quiet

abbrev pub port_flow : PortEvent → Flow
port_flow (port.Shown t s w) = Came s
port_flow (port.Grabbed t s w) = Went s
port_flow (port.Withdrawn t s w) = Went s
port_flow (port.Last t s w) = Came s
port_flow (port.Fault t s w) = Came s
port_flow (port.Refused s w) = Denied s
port_flow (port.Late s w) = Denied s
port_flow (port.Closed w) = Quiet

abbrev pub came_objects : Flow → ℕ
came_objects (Came s) = s
came_objects _ = 0

abbrev pub went_objects : Flow → ℕ
went_objects (Went s) = s
went_objects _ = 0

abbrev pub denied_objects : Flow → ℕ
denied_objects (Denied s) = s
denied_objects _ = 0

abbrev pub came_messages : Flow → ℕ
came_messages (Came s) = 1
came_messages _ = 0

abbrev pub went_messages : Flow → ℕ
went_messages (Went s) = 1
went_messages _ = 0

abbrev pub denied_messages : Flow → ℕ
denied_messages (Denied s) = 1
denied_messages _ = 0

-- a count summed over a history
abbrev pub over_inbox : (Flow → ℕ) → List InboxEvent → ℕ
over_inbox count events = sum_by (λ e. count (inbox_flow e)) events

abbrev pub over_port : (Flow → ℕ) → List PortEvent → ℕ
over_port count events = sum_by (λ e. count (port_flow e)) events

-- the objects of the messages inside, and how many messages these are
abbrev pub inbox_objects : InboxShape → ℕ
inbox_objects x = sum_by (λ (m : ℕ × ℕ). m.1) x.queued

abbrev pub inbox_messages : InboxShape → ℕ
inbox_messages x = length x.queued

abbrev pub shown_objects : Option (ℕ × ℕ) → ℕ
shown_objects None = 0
shown_objects (Some m) = m.1

abbrev pub last_objects : Option Kept → ℕ
last_objects None = 0
last_objects (Some k) = k.size

abbrev pub count_of : {A : Type 0} → Option A → ℕ
count_of None = 0
count_of (Some x) = 1

abbrev pub port_objects : PortShape → ℕ
port_objects x = shown_objects x.shown + last_objects x.last

abbrev pub port_messages : PortShape → ℕ
port_messages x = count_of x.shown + count_of x.last
