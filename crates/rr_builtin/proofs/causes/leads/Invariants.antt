use Rattle.std.proofs.Common.{◌≡◌, ◌+◌, ℕ, length}
use Rattle.rr_space.specs.Parts.{value_of}
use Rattle.rr_builtin.specs.Causes.{leads}
use Rattle.rr_builtin.proofs.causes.leads.Given as goal

abbrev pub invariant-loop : goal.invariant-loop
invariant-loop l = (k : ℕ) → k + l.counter ≡ length l.space.slots → leads (length l.space.slots) l.space (value_of l.exception) l.slot ≡ leads k l.space (value_of l.at) l.slot
