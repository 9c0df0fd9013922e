-- A message as a last value or fault, and what comes out of a port.
use Rattle.std.specs.Prelude.{Result, Ok, Err}
use Rattle.rr_space.specs.Tables.{Packed}
use Rattle.rr_port.specs.declared.last.Last.{Last}
use Rattle.rr_port.specs.declared.last.Last.TheVariants as last
use Rattle.rr_port.specs.declared.last.Grab.{Grab}
use Rattle.rr_port.specs.declared.last.Grab.TheVariants as grab
use Rattle.rr_world.specs.declared.step.Reply.{Reply}
use Rattle.rr_world.specs.declared.step.Reply.TheVariants.{Done, GrabbedLast, Empty, EmptyAndClosed}
use Rattle.rr_world.specs.declared.step.LastKind.{LastKind}
use Rattle.rr_world.specs.declared.step.LastKind.TheVariants as kind

abbrev pub last_as : LastKind → Packed → Last
last_as kind.Value m = last.Value m
last_as kind.Fault m = last.Fault m

-- the message that a taker got, and what a step answers that took it; or what it answers where there was none
abbrev pub told_of_grab : Grab → Result (Packed × Reply) Reply
told_of_grab (grab.Value m) = Ok (m, Done)
told_of_grab (grab.LastValue m) = Ok (m, GrabbedLast kind.Value)
told_of_grab (grab.LastFault m) = Ok (m, GrabbedLast kind.Fault)
told_of_grab grab.Nothing = Err Empty
told_of_grab grab.Closed = Err EmptyAndClosed
