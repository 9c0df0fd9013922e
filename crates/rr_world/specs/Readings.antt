-- A World read as a state of the graph machine, under names.
use Rattle.std.specs.Prelude.{ℕ, ◌+◌, List, [], ◌∷◌, length, map, slice_index}
use Rattle.std.specs.Option.{option_map}
use Rattle.rr_space.specs.Graph.{Value, Plain, At, Own, Published}
use Rattle.rr_space.specs.Parts.{value_of}
use Rattle.rr_space.specs.Tables.{Packed, renamed}
use Rattle.rr_space.specs.Readings.{Owner, Space, Hand, Mail, Shown, Shared, Objects, Naming, name_in}
use Rattle.rr_space.specs.declared.refer.Ref.{Ref}
use Rattle.rr_copy.specs.Messages.{size_of}
use Rattle.rr_move.specs.declared.home.Home.{Home}
use Rattle.rr_share.specs.declared.planned.Plan.{Plan}
use Rattle.rr_inbox.specs.Inboxes.{Inbox}
use Rattle.rr_inbox.specs.declared.entry.Entry.{Entry}
use Rattle.rr_port.specs.Lasts.{message_of, is_fault}
use Rattle.rr_port.specs.Ports.{Port}
use Rattle.rr_port.specs.declared.last.LastGiven.{LastGiven}
use Rattle.rr_port.specs.declared.last.Shown.{Shown as ShownMessage}
use Rattle.rr_world.specs.Views.{PublishedPlan, Member, Channels, Assembly}
use Rattle.rr_world.specs.States.{Parcel, Letter, Farewell, Showcase, Mailbox, Actor, Archive, Constant, Held, Post, State}
use Rattle.rr_world.specs.States as constant
use Rattle.rr_store.specs.Stores.{Store}
use Rattle.rr_store.specs.declared.constant.ConstValue.{ConstValue}
use Rattle.rr_store.specs.declared.constant.ConstValue.TheVariants as store

-- each element with its place, the first of them with k
abbrev pub each_from : {A B : Type 0} → (ℕ → A → B) → ℕ → List A → List B
each_from f k [] = []
each_from f k (x ∷ xs) = f k x ∷ each_from f (k + 1) xs

abbrev pub value_in : Naming → Owner → Value → Value
value_in names h v = renamed (name_in names h) v

abbrev pub root_in : Naming → Owner → Ref → Value
root_in names h r = value_in names h (value_of r)

abbrev pub parcel_in : Naming → Owner → Packed → Parcel
parcel_in names h m = record { root = value_in names h m.root; names = names h; size = size_of m; sender = m.sender; sequence = m.sequence }

abbrev pub letter_in : Naming → ℕ → Entry → Letter
letter_in names c e = record { ticket = e.ticket; parcel = parcel_in names (Mail c e.ticket) e.message }

abbrev pub mailbox_in : Naming → ℕ → Inbox → Mailbox
mailbox_in names c i = record { inside = map (letter_in names c) i.inside; closed = i.closed; next = i.next; history = i.history; limit = i.limit }

abbrev pub shown_in : Naming → ℕ → ShownMessage → Letter
shown_in names c e = record { ticket = e.ticket; parcel = parcel_in names (Shown c e.ticket) e.message }

abbrev pub farewell_in : Naming → ℕ → LastGiven → Farewell
farewell_in names c l = record { letter = record { ticket = l.ticket; parcel = parcel_in names (Shown c l.ticket) (message_of l.last) }; is_fault = is_fault l.last }

abbrev pub showcase_in : Naming → ℕ → Port → Showcase
showcase_in names c p = record {
  shown = option_map (shown_in names c) p.shown;
  last = option_map (farewell_in names c) p.last;
  given = p.given;
  closed = p.closed;
  next = p.next;
  history = p.history;
  limit = p.limit;
}

-- the names of the slots of a home
abbrev pub shells_in : Naming → ℕ → Home → List ℕ
shells_in names k h = map (slice_index (names (Space k))) h.slots

-- the names of the slots of a plan
abbrev pub planned_in : Naming → ℕ → Plan → List ℕ
planned_in names k p = map (slice_index (names (Space k))) p.places

abbrev pub published_names : Naming → ℕ → PublishedPlan → List ℕ
published_names names k p = map (slice_index (names (Space k))) p.places

abbrev pub actor_in : Naming → ℕ → Member → Actor
actor_in names k r = record {
  roots = map (root_in names (Space k)) r.roots;
  hand = option_map (parcel_in names (Hand k)) r.hand;
  home = option_map (shells_in names k) r.home;
  ticket = r.ticket;
  plan = option_map (planned_in names k) r.plan;
  published = option_map (published_names names k) r.published;
  slots = length r.space.slots;
  limit = r.space.limit;
  next = r.space.next_message;
  limits = r.limits;
  runs = r.runs;
}

-- a value of a constant: an immediate, or a place of a cluster
abbrev pub public_value : Naming → Value → Value
public_value names (Plain i) = Plain i
public_value names (At (Own n)) = At (Own n)
public_value names (At (Published c p)) = At (Own (slice_index (names (Shared c)) p))

abbrev pub constant_in : Naming → ConstValue → Constant
constant_in names (store.Shareable v) = Held (public_value names (value_of v))
constant_in names store.Own = constant.Own

abbrev pub archive_in : Naming → Store → Archive
archive_in names s = record { clusters = length s.clusters; constants = map (option_map (constant_in names)) s.constants; history = s.history; limit = s.limit }

abbrev pub post_in : Naming → Channels → Post
post_in names x = record { inboxes = each_from (mailbox_in names) 0 x.inboxes; ports = each_from (showcase_in names) 0 x.ports; archive = archive_in names x.store }

-- the state that a World is under a naming and a whole graph
abbrev pub state_in : Assembly → Naming → Objects → State
state_in w names g = record { objects = g; ractors = each_from (actor_in names) 0 w.ractors; post = post_in names w.channels }
