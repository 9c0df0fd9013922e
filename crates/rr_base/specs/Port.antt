-- What a port's events replay to.
use Rattle.std.specs.Prelude.{ℕ, ◌≡◌, ◌+◌, ◌⊎◌, Bool, true, false, Some, None}
use Rattle.rr_base.specs.declared.event.PortEvent.{PortEvent}
use Rattle.rr_base.specs.declared.event.PortEvent.TheVariants.{Shown, Grabbed, Withdrawn, Last, Fault, Refused, Late, Closed}
use Rattle.rr_base.specs.declared.event.Kept.{Kept}
use Rattle.rr_base.specs.declared.event.PortShape.{PortShape}

abbrev pub empty_port : PortShape
empty_port = record { shown = None; last = None; given = false; closed = false; next = 0 }

-- the last value or fault leaves
pub record LastLeaves (x : PortShape) (t s : ℕ) (y : PortShape) : Type 0 where
  pub kept : Kept
  pub is_last : x.last ≡ Some kept
  pub ticket : kept.ticket ≡ t
  pub size : kept.size ≡ s
  pub after : y ≡ record x { last = None }

-- the shown message leaves
abbrev pub ShownLeaves : PortShape → ℕ → ℕ → PortShape → Type 0
ShownLeaves x t s y = (x.shown ≡ Some (t, s)) × (y ≡ record x { shown = None })

-- a last value or fault comes, the only one, and closes the port
abbrev pub GivesLast : PortShape → Bool → ℕ → ℕ → PortShape → Type 0
GivesLast x is_fault t s y = (x.closed ≡ false) × (x.given ≡ false) × (x.last ≡ None) × (t ≡ x.next)
    × (y ≡ record { shown = x.shown; last = Some (record { is_fault = is_fault; ticket = t; size = s }); given = true; closed = true; next = x.next + 1 })

abbrev pub PortStep : PortShape → PortEvent → PortShape → Type 0
PortStep x (Shown t s w) y = (x.closed ≡ false) × (t ≡ x.next) × (x.shown ≡ None) × (y ≡ record x { shown = Some (t, s); next = x.next + 1 })
PortStep x (Grabbed t s w) y = LastLeaves x t s y ⊎ ((x.last ≡ None) × (x.closed ≡ false) × ShownLeaves x t s y)
PortStep x (Withdrawn t s w) y = ShownLeaves x t s y
PortStep x (Last t s w) y = GivesLast x false t s y
PortStep x (Fault t s w) y = GivesLast x true t s y
PortStep x (Refused s w) y = (x.closed ≡ true) × (y ≡ x)
PortStep x (Late s w) y = (x.closed ≡ true) × (x.given ≡ false) × (y ≡ record x { given = true })
PortStep x (Closed w) y = (x.closed ≡ false) × (y ≡ record x { closed = true })
