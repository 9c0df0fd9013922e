-- The tables that a World has.
use Rattle.std.specs.Prelude.{◌≡◌, ◌+◌, ◌<◌, ◌≤◌, ◌++◌, Contains, ℕ, List, [], ◌∷◌, length, map, Option, None, Some, slice_get, nat_eq, cond}
use Rattle.std.specs.Option.{option_map, option_and_then}
use Rattle.rr_space.specs.Graph.{Own, Published, At, Object, text}
use Rattle.rr_space.specs.Tables.{Packed, Slot, Here, Below, Whole, HashKey, joined, below_hold, numbered_object}
use Rattle.rr_space.specs.Readings.{Space, Hand, Mail, Shown, Shared, Layout, Knows, HasPlace, Naming, Objects, IsReading, AreClustersInOrder}
use Rattle.rr_space.specs.KeyObjects.{AreKeysNamed}
use Rattle.rr_space.specs.Lookups.{IsOneEach}
use Rattle.rr_space.specs.Parts.{below_ref}
use Rattle.rr_space.specs.declared.refer.Ref.{Ref}
use Rattle.rr_base.specs.declared.name.Sym.{Sym}
use Rattle.rr_store.specs.Stores.{constant_of}
use Rattle.rr_store.specs.declared.constant.ConstValue.TheVariants.{Shareable}
use Rattle.rr_inbox.specs.Inboxes.{Inbox}
use Rattle.rr_inbox.specs.declared.entry.Entry.{Entry}
use Rattle.rr_port.specs.Lasts.{message_of}
use Rattle.rr_port.specs.Ports.{Port}
use Rattle.rr_port.specs.declared.last.LastGiven.{LastGiven}
use Rattle.rr_port.specs.declared.last.Shown.{Shown as ShownMessage}
use Rattle.rr_move.specs.Homes.{IsHomeOf}
use Rattle.rr_move.specs.declared.home.Home.{Home}
use Rattle.rr_world.specs.Views.{PublishedPlan, Member, Channels, Assembly, AreRootsWithin, seen_slots}
use Rattle.rr_share.specs.declared.planned.Plan.{Plan}

abbrev pub message_slots : Packed → List Slot
message_slots m = map Here m.objects

abbrev pub space_slots : Member → List Slot
space_slots r = seen_slots r

abbrev pub hand_slots : Member → Option (List Slot)
hand_slots r = option_map message_slots r.hand

-- the message that has a ticket
abbrev pub mail_slots : ℕ → List Entry → Option (List Slot)
mail_slots t [] = None
mail_slots t (e ∷ es) = cond (nat_eq t e.ticket) (Some (message_slots e.message)) (mail_slots t es)

abbrev pub inbox_slots : ℕ → Inbox → Option (List Slot)
inbox_slots t i = mail_slots t i.inside

-- the messages in a port with their tickets: the shown one, and the last value or fault
abbrev pub shown_inside : Option ShownMessage → List Entry
shown_inside None = []
shown_inside (Some e) = record { ticket = e.ticket; message = e.message } ∷ []

abbrev pub last_inside : Option LastGiven → List Entry
last_inside None = []
last_inside (Some l) = record { ticket = l.ticket; message = message_of l.last } ∷ []

abbrev pub port_inside : Port → List Entry
port_inside p = shown_inside p.shown ++ last_inside p.last

abbrev pub port_slots : ℕ → Port → Option (List Slot)
port_slots t p = mail_slots t (port_inside p)

-- the objects of a cluster, under names of its own
abbrev pub cluster_slots : Whole → List Slot
cluster_slots c = map Here c.own

-- a table for each space, for each message in a hand, for each message in an inbox or a port, and for each published cluster
unfoldable pub layout : Assembly → Layout
layout w (Space k) = option_map space_slots (slice_get w.ractors k)
layout w (Hand k) = option_and_then hand_slots (slice_get w.ractors k)
layout w (Mail c t) = option_and_then (inbox_slots t) (slice_get w.channels.inboxes c)
layout w (Shown c t) = option_and_then (port_slots t) (slice_get w.channels.ports c)
layout w (Shared c) = option_map cluster_slots (slice_get w.channels.store.clusters c)

-- the list has each cluster that is published, and no number twice
pub record HasAllClusters (tables : Layout) (below : Below) : Type 0 where
  pub one : IsOneEach below
  pub all : (c : ℕ) (raws : List Object) → tables (Shared c) ≡ Some (map Here raws) → Contains below (c, map (numbered_object c) raws)

-- in a table of these slots each key of a hash is the key that its key object is, by the published clusters; each slot has its list
-- of keys; and texts lead to nothing
pub record AreKeysKnown (tables : Layout) (slots : List Slot) (keys : List (List HashKey)) : Type 0 where
  pub count : length slots ≤ length keys
  pub texts : (n : ℕ) (o : Object) → slice_get slots n ≡ Some (Here o) → o.kind ≡ text → o.triples ≡ []
  pub named : (below : Below) → HasAllClusters tables below → AreKeysNamed below slots keys

-- the clusters that a message leads to
abbrev pub message_below : Packed → Below
message_below m = m.root_below ++ joined m.below

-- the clusters that a message leads to are the store's, its root is an immediate, an object of it, or one that the store has, and the
-- keys of its hashes are those of their key objects
pub record IsMessageKnown (tables : Layout) (m : Packed) : Type 0 where
  pub below : Knows (message_below m) tables
  pub own : (i : ℕ) → m.root ≡ At (Own i) → i < length m.objects
  pub root : (c p : ℕ) → m.root ≡ At (Published c p) → HasPlace tables c p
  pub keyed : AreKeysKnown tables (message_slots m) m.keys

-- what a ractor's objects, its roots, its message and its plans know of clusters is what the store has, and the keys of its hashes
-- are those of their key objects
pub record MemberKnows (tables : Layout) (m : Member) : Type 0 where
  pub space : Knows (joined m.space.below) tables
  pub roots : (r : Ref) → Contains m.roots r → Knows (below_ref r) tables
  pub hand : (p : Packed) → m.hand ≡ Some p → IsMessageKnown tables p
  pub plan : (p : Plan) → m.plan ≡ Some p → Knows p.cluster.below tables
  pub published : (p : PublishedPlan) → m.published ≡ Some p → Knows (below_hold p.cluster) tables
  pub keyed : AreKeysKnown tables m.space.slots m.space.keys

-- the same of each ractor, of each constant and of each message in an inbox or a port
pub record IsKnowing (w : Assembly) : Type 0 where
  pub ractors : (k : ℕ) (m : Member) → slice_get w.ractors k ≡ Some m → MemberKnows (layout w) m
  pub store : (n : Sym) (v : Ref) → constant_of w.channels.store n ≡ Some (Shareable v) → Knows (below_ref v) (layout w)
  pub inboxes : (c : ℕ) (i : Inbox) (e : Entry) → slice_get w.channels.inboxes c ≡ Some i → Contains i.inside e → IsMessageKnown (layout w) e.message
  pub ports : (c : ℕ) (p : Port) (e : Entry) → slice_get w.channels.ports c ≡ Some p → Contains (port_inside p) e → IsMessageKnown (layout w) e.message

-- each ractor's space has the ractor's number, so that its messages tell who sent them
abbrev pub AreOwned : Assembly → Type 0
AreOwned w = (k : ℕ) (m : Member) → slice_get w.ractors k ≡ Some m → m.space.owner ≡ k + 1

-- each ractor has its inbox, and there are no others
abbrev pub HaveInboxes : Assembly → Type 0
HaveInboxes w = length w.channels.inboxes ≡ length w.ractors

-- and so it is with ports
abbrev pub HavePorts : Assembly → Type 0
HavePorts w = length w.channels.ports ≡ length w.ractors

-- the home that a ractor kept of a message, which is shown in its port under the ticket that it kept, is that message's
abbrev pub DoHomesFit : Assembly → Type 0
DoHomesFit w = (k : ℕ) (m : Member) (p : Port) (h : Home) (e : ShownMessage) → slice_get w.ractors k ≡ Some m → slice_get w.channels.ports k ≡ Some p
    → m.home ≡ Some h → m.ticket ≡ Some e.ticket → p.shown ≡ Some e → IsHomeOf h e.message

-- each root of a ractor leads to a slot of its space, or to a place that its cluster has
abbrev pub AreRooted : List Member → Type 0
AreRooted ms = (k : ℕ) (m : Member) → slice_get ms k ≡ Some m → AreRootsWithin (length m.space.slots) m.roots

-- each message of the list is the one that its ticket finds
abbrev pub AreFound : List Entry → Type 0
AreFound es = (e : Entry) → Contains es e → mail_slots e.ticket es ≡ Some (message_slots e.message)

-- so it is in each inbox, and in each port
abbrev pub AreInboxesFound : Channels → Type 0
AreInboxesFound x = (c : ℕ) (i : Inbox) → slice_get x.inboxes c ≡ Some i → AreFound i.inside

abbrev pub ArePortsFound : Channels → Type 0
ArePortsFound x = (c : ℕ) (p : Port) → slice_get x.ports c ≡ Some p → AreFound (port_inside p)

-- what ractors and messages hold has a place in their tables
pub record IsHeldWithin (w : Assembly) : Type 0 where
  pub roots : AreRooted w.ractors
  pub inboxes : AreInboxesFound w.channels
  pub ports : ArePortsFound w.channels

-- a reading of the World: its tables are read as a whole graph, what they know of clusters is what the store has, each key of a
-- hash is the key that its key object is, each space is its ractor's, what is held has a place in the tables, there are as many
-- inboxes and ports as ractors, homes fit what is shown, and clusters are frozen and lead to earlier ones alone
pub record IsRead (w : Assembly) (names : Naming) (bound : ℕ) (g : Objects) : Type 0 where
  pub tables : IsReading (layout w) names bound g
  pub knows : IsKnowing w
  pub owned : AreOwned w
  pub held : IsHeldWithin w
  pub inboxes : HaveInboxes w
  pub ports : HavePorts w
  pub fits : DoHomesFit w
  pub clusters : AreClustersInOrder (layout w)
