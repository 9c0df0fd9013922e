-- The state of the graph machine.
use Rattle.std.specs.Prelude.{◌≡◌, ℕ, Bool, List, Option, slice_get, slice_set}
use Rattle.std.specs.Option.{option_and_then}
use Rattle.rr_base.specs.declared.name.Sym.{Sym}
use Rattle.rr_base.specs.declared.event.StoreEvent.{StoreEvent}
use Rattle.rr_base.specs.declared.limits.Limits.{Limits}
use Rattle.rr_base.specs.declared.event.InboxEvent.{InboxEvent}
use Rattle.rr_base.specs.declared.event.PortEvent.{PortEvent}
use Rattle.rr_space.specs.Graph.{Value}
use Rattle.rr_space.specs.Readings.{Objects}

-- a message in the whole graph: its root, the names and the number of its objects, its sender and its sequence number
pub record Parcel : Type 0 where
  pub root : Value
  pub names : List ℕ
  pub size : ℕ
  pub sender : ℕ
  pub sequence : ℕ

-- a message inside an inbox, or shown in a port
pub record Letter : Type 0 where
  pub ticket : ℕ
  pub parcel : Parcel

-- an inbox: messages with tickets in their order, a closed mark, the next ticket, and what happened with its limit
pub record Mailbox : Type 0 where
  pub inside : List Letter
  pub closed : Bool
  pub next : ℕ
  pub history : List InboxEvent
  pub limit : ℕ

-- a last value, or a last fault
pub record Farewell : Type 0 where
  pub letter : Letter
  pub is_fault : Bool

-- a port: the shown message, the last value or fault, whether one was given, a closed mark, the next ticket, and what happened
-- with its limit
pub record Showcase : Type 0 where
  pub shown : Option Letter
  pub last : Option Farewell
  pub given : Bool
  pub closed : Bool
  pub next : ℕ
  pub history : List PortEvent
  pub limit : ℕ

-- a ractor: the values that it holds, the message in its hand, the names of the shells that its objects left where it was moved,
-- in their order, the ticket under which that message is shown, where it is no more in the hand, the names of the objects of a
-- plan in the hand, and of a published plan, the slots that the ractor has used, the most that it may use, the number of its next
-- moved message, the limits of the run, which it hands on to those that it starts, and whether it runs: it has not ended
pub record Actor : Type 0 where
  pub roots : List Value
  pub hand : Option Parcel
  pub home : Option (List ℕ)
  pub ticket : Option ℕ
  pub plan : Option (List ℕ)
  pub published : Option (List ℕ)
  pub slots : ℕ
  pub limit : ℕ
  pub next : ℕ
  pub limits : Limits
  pub runs : Bool

-- what a constant has: a value that all ractors may have, or one that the main ractor keeps itself
pub data Constant : Type 0 where
  Held : (value : Value) → Constant
  Own : Constant

-- the store: the number of its clusters, what each constant has, by the number of its name, and what happened with its limit
pub record Archive : Type 0 where
  pub clusters : ℕ
  pub constants : List (Option Constant)
  pub history : List (StoreEvent Sym)
  pub limit : ℕ

abbrev pub itself : Option Constant → Option Constant
itself c = c

abbrev pub constant_at : Archive → ℕ → Option Constant
constant_at a n = option_and_then itself (slice_get a.constants n)

-- what lies between ractors: their inboxes and their ports, by number, and the store
pub record Post : Type 0 where
  pub inboxes : List Mailbox
  pub ports : List Showcase
  pub archive : Archive

-- the same, with another inbox in one's place
abbrev pub with_box : Post → ℕ → Mailbox → Post
with_box p c b = record p { inboxes = slice_set p.inboxes c b }

-- and with another port in one's place
abbrev pub with_case : Post → ℕ → Showcase → Post
with_case p c b = record p { ports = slice_set p.ports c b }

-- and with another store
abbrev pub with_archive : Post → Archive → Post
with_archive p a = record p { archive = a }

-- objects with owners, ractors, and what lies between them; number 1 stands first
pub record State : Type 0 where
  pub objects : Objects
  pub ractors : List Actor
  pub post : Post

-- all is as it was
pub record IsSame (old new : State) : Type 0 where
  pub objects : (n : ℕ) → new.objects n ≡ old.objects n
  pub ractors : new.ractors ≡ old.ractors
  pub post : new.post ≡ old.post
