-- A last value or fault is a message marked as one of the two.
use Rattle.std.specs.Prelude.{ℕ, Bool, true, false}
use Rattle.rr_base.specs.declared.name.RactorNo.{RactorNo}
use Rattle.rr_base.specs.declared.event.PortEvent.{PortEvent}
use Rattle.rr_base.specs.declared.event.PortEvent.TheVariants as event
use Rattle.rr_space.specs.Tables.{Packed}
use Rattle.rr_copy.specs.Messages.{size_of}
use Rattle.rr_port.specs.declared.last.Last.{Last}
use Rattle.rr_port.specs.declared.last.Last.TheVariants as last

abbrev pub message_of : Last → Packed
message_of (last.Value m) = m
message_of (last.Fault m) = m

abbrev pub is_fault : Last → Bool
is_fault (last.Value m) = false
is_fault (last.Fault m) = true

-- what a history tells of it
abbrev pub last_event : ℕ → RactorNo → Last → PortEvent
last_event t who (last.Value m) = event.Last t (size_of m) who
last_event t who (last.Fault m) = event.Fault t (size_of m) who
