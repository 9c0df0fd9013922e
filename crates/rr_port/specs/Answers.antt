-- Why a showing is refused, and what the other calls answer and leave.
use Rattle.std.specs.Prelude.{ℕ, ◌≡◌, true, false, [], ◌∷◌, ◌++◌, Option, Some, None, Result, Ok, Err}
use Rattle.rr_base.specs.declared.name.RactorNo.{RactorNo}
use Rattle.rr_base.specs.declared.fault.Fault.{Fault}
use Rattle.rr_base.specs.declared.fault.Fault.TheVariants as fault
use Rattle.rr_base.specs.declared.event.PortEvent.TheVariants.{Grabbed, Withdrawn}
use Rattle.rr_space.specs.Tables.{Packed}
use Rattle.rr_copy.specs.Messages.{size_of}
use Rattle.rr_port.specs.declared.last.Grab.{Grab}
use Rattle.rr_port.specs.declared.last.Grab.TheVariants as grab
use Rattle.rr_port.specs.declared.last.Last.TheVariants as last
use Rattle.rr_port.specs.declared.last.Settled.{Settled}
use Rattle.rr_port.specs.declared.last.Settled.TheVariants as settled
use Rattle.rr_port.specs.declared.last.Shown.{Shown}
use Rattle.rr_port.specs.declared.last.LastGiven.{LastGiven}
use Rattle.rr_port.specs.Ports.{Port, HasEvents}

-- the faults in their order; no other is answered
abbrev pub Refusal : Fault → Port → Type 0
Refusal fault.HistoryFull p = ¬ HasEvents p
Refusal fault.Memory p = HasEvents p
Refusal fault.Closed p = HasEvents p × (p.closed ≡ true)
Refusal _ p = ⊥

-- what a taker got, and what it left
abbrev pub Grabs : Grab → Port → Port → RactorNo → Type 0
Grabs (grab.Value m) p q who = (e : Shown) × (e.message ≡ m) × (p.last ≡ None) × (p.closed ≡ false) × (p.shown ≡ Some e) × (q ≡ record p { shown = None; history = p.history ++ Grabbed e.ticket (size_of m) who ∷ [] })
Grabs (grab.LastValue m) p q who = (l : LastGiven) × (l.last ≡ last.Value m) × (p.last ≡ Some l) × (q ≡ record p { last = None; history = p.history ++ Grabbed l.ticket (size_of m) who ∷ [] })
Grabs (grab.LastFault m) p q who = (l : LastGiven) × (l.last ≡ last.Fault m) × (p.last ≡ Some l) × (q ≡ record p { last = None; history = p.history ++ Grabbed l.ticket (size_of m) who ∷ [] })
Grabs grab.Nothing p q who = (p.last ≡ None) × (p.closed ≡ false) × (p.shown ≡ None) × (q ≡ p)
Grabs grab.Closed p q who = (p.last ≡ None) × (p.closed ≡ true) × (q ≡ p)

-- the message of this ticket is shown
abbrev pub IsShownUnder : Option Shown → ℕ → Type 0
IsShownUnder None ticket = ⊥
IsShownUnder (Some e) ticket = e.ticket ≡ ticket

abbrev pub Settles : Settled → Port → ℕ → Type 0
Settles settled.Taken p ticket = ¬ IsShownUnder p.shown ticket
Settles settled.Shown p ticket = IsShownUnder p.shown ticket × (p.closed ≡ false)
Settles settled.Closed p ticket = IsShownUnder p.shown ticket × (p.closed ≡ true)

abbrev pub Withdraws : Result Packed Fault → Port → Port → RactorNo → ℕ → Type 0
Withdraws (Ok m) p q who ticket = (e : Shown) × (e.message ≡ m) × (e.ticket ≡ ticket) × (p.shown ≡ Some e) × (q ≡ record p { shown = None; history = p.history ++ Withdrawn e.ticket (size_of m) who ∷ [] })
Withdraws (Err e) p q who ticket = (e ≡ fault.NotShown) × ¬ IsShownUnder p.shown ticket × (q ≡ p)
