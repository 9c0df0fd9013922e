-- Why an offer is refused, and what an accept takes.
use Rattle.std.specs.Prelude.{◌≡◌, true, false, [], ◌∷◌, ◌++◌}
use Rattle.rr_base.specs.declared.name.RactorNo.{RactorNo}
use Rattle.rr_base.specs.declared.fault.Fault.{Fault}
use Rattle.rr_base.specs.declared.fault.Fault.TheVariants.{Memory, HistoryFull, Closed}
use Rattle.rr_base.specs.declared.event.InboxEvent.TheVariants.{Accepted}
use Rattle.rr_copy.specs.Messages.{size_of}
use Rattle.rr_inbox.specs.declared.entry.Front.{Front}
use Rattle.rr_inbox.specs.declared.entry.Front.TheVariants.{Message, Empty, EmptyAndClosed}
use Rattle.rr_inbox.specs.declared.entry.Entry.{Entry}
use Rattle.rr_inbox.specs.Inboxes.{Inbox, HasEvents}

-- the faults in their order; no other is answered
abbrev pub Refusal : Fault → Inbox → Type 0
Refusal HistoryFull s = ¬ HasEvents s
Refusal Memory s = HasEvents s
Refusal Closed s = HasEvents s × (s.closed ≡ true)
Refusal _ s = ⊥

-- what an accept took, and what it left
abbrev pub Takes : Front → Inbox → Inbox → RactorNo → Type 0
Takes (Message m) s t who = (e : Entry) × (e.message ≡ m) × (s.inside ≡ e ∷ t.inside) × (t ≡ record s { inside = t.inside; history = s.history ++ Accepted e.ticket (size_of m) who ∷ [] })
Takes Empty s t who = (s.inside ≡ []) × (s.closed ≡ false) × (t ≡ s)
Takes EmptyAndClosed s t who = (s.inside ≡ []) × (s.closed ≡ true) × (t ≡ s)
